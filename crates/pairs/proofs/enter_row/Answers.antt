use Rattle.std.proofs.Common.{arith}
use Rattle.rack.specs.Rows.{as_rows}
use Rattle.pairs.proofs.Entering.{entering_taken, entering_room}
use Rattle.pairs.proofs.enter_row.Goals as goal

pub push-requires : goal.push-requires
push-requires c =
    let a = c.args in
    let loop = c.loop-pair in
    (omega arith, entering_room a.bound a.sizes.now (as_rows a.table.now) a.j loop.candidates.items c.next_pair.new.candidates.items loop.list.items c.in-Some.pair loop.invariant c.in-Some.ensures (omega (arith, c.requires.0.most)))

pub loop-pair-preserved : goal.loop-pair-preserved
loop-pair-preserved c =
    let a = c.args in
    let loop = c.loop-pair in
    rw c.push.ensures.items (entering_taken a.bound a.sizes.now (as_rows a.table.now) a.j loop.candidates.items c.next_pair.new.candidates.items loop.list.items c.in-Some.pair loop.invariant c.in-Some.ensures)
