use Rattle.std.proofs.Common.{arith, ◌+◌}
use Rattle.std.proofs.lemmas.List.{take_all}
use Rattle.terms.specs.Flat.{table_of}
use Rattle.pairs.specs.Flat.{pairs_of}
use Rattle.pairs.proofs.Entering.{entering_start, entering_taken, entering_room}
use Rattle.pairs.proofs.Flat.{listed_on, pairs_long}
use Rattle.pairs.proofs.enter.Goals as goal

pub pick-requires : goal.pick-requires
pick-requires c =
    rw (c.first_rows-rows.ensures, c.first_twelve.ensures, take_all 12 c.args.sizes.now (omega (arith, c.requires.0.0.small_sizes.long))) c.requires.0.0

pub loop-pair-init : goal.loop-pair-init
loop-pair-init c =
    let a = c.args in
    let listed = pairs_of a.due.now a.mates.now a.pairs in
    let picked = rw (c.first_rows-rows.ensures, c.first_twelve.ensures, take_all 12 a.sizes.now (omega (arith, c.requires.0.0.small_sizes.long))) at c.pick.ensures in
    entering_start a.bound a.sizes.now (table_of 12 a.table.now (a.j + 1)) a.j c.pick.new.picked.items listed (listed_on a.bound a.sizes.now a.table.now a.j listed c.requires.3) picked

pub write_pair-count-requires : goal.write_pair-count-requires
write_pair-count-requires c =
    let a = c.args in
    let loop = c.loop-pair in
    let taken = rw c.first_rows-rows.ensures at c.in-Some.ensures in
    let room = entering_room a.bound a.sizes.now (table_of 12 a.table.now (a.j + 1)) a.j loop.candidates.items c.next_pair.new.candidates.items (pairs_of loop.due loop.mates loop.count) c.in-Some.pair loop.invariant taken (omega (arith, c.requires.0.0.most)) in
    (omega (arith, room, pairs_long loop.due loop.mates loop.count, c.requires.1), omega (arith, room, pairs_long loop.due loop.mates loop.count, c.requires.2))

pub loop-pair-preserved : goal.loop-pair-preserved
loop-pair-preserved c =
    let a = c.args in
    let loop = c.loop-pair in
    let taken = rw c.first_rows-rows.ensures at c.in-Some.ensures in
    rw c.write_pair-count.ensures (entering_taken a.bound a.sizes.now (table_of 12 a.table.now (a.j + 1)) a.j loop.candidates.items c.next_pair.new.candidates.items (pairs_of loop.due loop.mates loop.count) c.in-Some.pair loop.invariant taken)
