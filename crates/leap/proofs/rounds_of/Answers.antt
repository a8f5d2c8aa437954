use Rattle.std.proofs.Common.{sym, arith}
use Rattle.laws.specs.Load.{fits_at, fits_length}
use Rattle.leap.specs.Way.{rounds_all}
use Rattle.leap.proofs.rounds_of.Goals as goal

pub of-requires : goal.of-requires
of-requires c =
    let head = c.args.row.now.head.now in
    (omega (arith, fits_length head c.args.x.now c.requires.0), omega arith)

pub rounds-more-requires : goal.rounds-more-requires
rounds-more-requires c =
    let head = c.args.row.now.head.now in
    rw (c.of.ensures.0, c.of.ensures.2) (fits_at head c.args.x.now c.loop-k.k c.requires.0)

pub returns : goal.returns
returns c =
    let loop = c.loop-k in
    let row = c.args.row.now in
    let x = c.args.x.now in
    let long = fits_length row.head.now x c.requires.0 in
    (loop.invariant.0, rounds_all loop.more row.head.now row.tail.now x (sym long) c.requires.1 (λ i l. loop.invariant.1 i (omega arith)))
