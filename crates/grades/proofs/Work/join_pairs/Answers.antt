use Rattle.std.proofs.Common.{get_or, take_all, arith}
use Rattle.std.proofs.lemmas.List.{take_more, length-map}
use Rattle.rack.specs.Rows.{as_row}
use Rattle.grades.proofs.Listed.{no_pair, pair_in, pairs_start, pairs_turn, pairs_skip, pairs_full, pairs_end, pairs_asked}
use Rattle.grades.proofs.Joins.{rows_in, rows_over}
use Rattle.grades.proofs.Work.join_pairs.Goals as goal
use Rattle.grades.proofs.Work.join_pairs.Goals.{then-pair-g+else-self-len, else-pair-g}

pub loop-pair-init : goal.loop-pair-init
loop-pair-init g c = pairs_start (omega (arith, c.requires.has_room, length-map c.args.table.now.items as_row))

pub join_pair-requires : goal.join_pair-requires
join_pair-requires g c =
    let k = c.loop-pair.pair-index in
    let asked = pairs_asked c.loop-pair.invariant (get_or c.args.list.now k no_pair) (pair_in c.args.list.now k c.loop-pair-test.true) c.requires.listed.2 c.args.self.now.few c.if-pair-g.true in
    rw (c.from.ensures, c.from-then-pair-g.ensures, ← (length-map c.loop-pair.table.items as_row)) asked

pub returns-then-self-len-clause-done : goal.returns-then-self-len-clause-done
returns-then-self-len-clause-done g c =
    let k = c.loop-pair.pair-index in
    pairs_full c.loop-pair.invariant (get_or c.args.list.now k no_pair) (pair_in c.args.list.now k c.loop-pair-test.true) c.if-pair-g.true (rw (c.from.ensures, c.from-then-pair-g.ensures) at c.join_pair.ensures) (rows_over c.join_pair.new.table.items c.len.ensures.value c.if-self-len.true)

pub loop-pair-preserved : goal.loop-pair-preserved
loop-pair-preserved g c =
    let k = c.loop-pair.pair-index in
    let a = get_or c.args.list.now k no_pair in
    let m = pair_in c.args.list.now k c.loop-pair-test.true in
    let more = take_more c.args.list.now k no_pair c.loop-pair-test.true in
    elim c.if-pair-g.branch [
      | then-pair-g+else-self-len w ↦ rw (w.table-is, more) (pairs_turn c.loop-pair.invariant a m w.if-pair-g.true (rw (w.from.ensures, w.from-then-pair-g.ensures) at w.join_pair.ensures) (rows_in w.join_pair.new.table.items w.len.ensures.value w.if-self-len.false))
      | else-pair-g w ↦ rw (w.table-is, more) (pairs_skip c.loop-pair.invariant a m w.if-pair-g.false)
    ]

pub returns-clause-done : goal.returns-clause-done
returns-clause-done g c = pairs_end (rw (take_all c.loop-pair.pair-index c.args.list.now c.loop-pair-test.false) at c.loop-pair.invariant)
