use Rattle.std.proofs.Common.{◌<◌, length, sym, ◌∙◌, arith}
use Rattle.std.proofs.lemmas.List.{length-map}
use Rattle.rack.specs.Rows.{as_row}
use Rattle.growth.specs.Grade.{SwapsJoined}
use Rattle.grades.proofs.Going.{swaps_turn, swaps_skip, swaps_full, swaps_end, within_now, left_loaded, right_loaded}
use Rattle.grades.proofs.Joins.{rows_in, rows_over}
use Rattle.grades.proofs.Work.join_swaps.Goals as goal
use Rattle.grades.proofs.Work.join_swaps.Goals.{then-stamp-g+else-self-len, else-stamp-g}

pub stamp-requires : goal.stamp-requires
stamp-requires g c = omega (arith, c.loop-k-test.true, c.count-k-end.ensures)

pub joined-requires : goal.joined-requires
joined-requires g c =
    let k = c.loop-k.k in
    let k< : k < length (g.S.StampedSheet.sheet c.args.self.now.swaps) = omega (arith, c.loop-k-test.true, c.count-k-end.ensures) in
    let w = within_now {J = SwapsJoined c.args.self.now.weights.now c.requires.0.working.setting c.args.g c.requires.0.low c.loop-k.k} c.requires.0 (c.loop-k.invariant.grows c.requires.0) in
    let due = sym c.stamp.ensures ∙ c.if-stamp-g.true in
    rw (c.sides.ensures.0, c.sides.ensures.1) (left_loaded w k k< due, right_loaded w k k< due, omega (arith, c.loop-k.invariant.roomy, length-map c.loop-k.table.items as_row))

pub returns-then-self-len-clause-done : goal.returns-then-self-len-clause-done
returns-then-self-len-clause-done g c =
    swaps_full c.loop-k.invariant (omega (arith, c.loop-k-test.true, c.count-k-end.ensures)) (sym c.stamp.ensures ∙ c.if-stamp-g.true) (rw (c.sides.ensures.0, c.sides.ensures.1) at c.joined.ensures) (rows_over c.joined.new.table.items c.len.ensures.value c.if-self-len.true)

pub loop-k-preserved : goal.loop-k-preserved
loop-k-preserved g c =
    let k< : c.loop-k.k < length (g.S.StampedSheet.sheet c.args.self.now.swaps) = omega (arith, c.loop-k-test.true, c.count-k-end.ensures) in
    elim c.if-stamp-g.branch [
      | then-stamp-g+else-self-len w ↦ rw w.table-is (swaps_turn c.loop-k.invariant k< (sym c.stamp.ensures ∙ w.if-stamp-g.true) (rw (w.sides.ensures.0, w.sides.ensures.1) at w.joined.ensures) (rows_in w.joined.new.table.items w.len.ensures.value w.if-self-len.false))
      | else-stamp-g w ↦ rw w.table-is (swaps_skip c.loop-k.invariant k< (λ e. w.if-stamp-g.false (c.stamp.ensures ∙ e)))
    ]

pub returns-clause-done : goal.returns-clause-done
returns-clause-done g c = swaps_end c.loop-k.invariant (omega (arith, c.loop-k-test.false, c.count-k-end.ensures))
