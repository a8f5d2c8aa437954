use Rattle.std.proofs.Common.{◌+◌, map, refl, sym, ◌∙◌, arith, rules}
use Rattle.std.proofs.lemmas.Iterator.{YieldsList-from_slice, YieldsList-from_map}
use Rattle.std.proofs.lemmas.Iterator.Consumers.{YieldsList-at}
use Rattle.std.proofs.lemmas.List.{length-map}
use Rattle.rack.specs.Rows.{as_row}
use Rattle.pairs.specs.declared.Pair.{Pair}
use Rattle.pairs.specs.Pairs.{NextAbove}
use Rattle.grades.proofs.Whole.{at_error, at_value, next_of, grading_start, grading_full, grading_next, grading_end}
use Rattle.grades.proofs.Joins.{rows_in, rows_over}
use Rattle.grades.proofs.Work.every_grade.Goals as goal

pub loop-g-init : goal.loop-g-init
loop-g-init g c = rw (c.new-list.ensures, c.clear.ensures) (grading_start c.next_above-g.ensures)

pub returns-then-past-g : goal.returns-then-past-g
returns-then-past-g g c = rw c.clear.ensures (grading_end (grading_start c.next_above-g.ensures) c.requires (omega arith))

pub one_grade-requires : goal.one_grade-requires
one_grade-requires g c =
    let s = c.loop-g.invariant in
    let long = length-map c.loop-g.table.items as_row in
    λ κs l. (l, (refl {a = c.args.self.now.weights.now}, (((c.requires, s.at c.requires), s.entered), (s.some, omega arith, omega (arith, s.roomy, long)))))

pub returns-then-is_err : goal.returns-then-is_err
returns-then-is_err g c = grading_full c.loop-g.invariant c.one_grade.ensures.done (rows_over c.one_grade.new.table.items refl (at_error _ _ c.one_grade.result c.one_grade.ensures.room (sym c.is_err.ensures.value ∙ c.if-is_err.true)))

pub loop-g-preserved : goal.loop-g-preserved
loop-g-preserved g c =
    let list = c.one_grade.new.list.items in
    let dues : NextAbove (map (λ (a : Pair). a.due) list) c.loop-g.g (c.args.self.now.bound + 1) c.next_above-limit.result = next_of c.next_above-limit.ensures (YieldsList-from_map _ (λ (a : Pair). a.due) (YieldsList-at c.map.ensures.source (YieldsList-from_slice list (search rules))) c.map.ensures.closure (λ x r q k. search rules)) in
    grading_next c.loop-g.invariant c.one_grade.ensures.done (rows_in c.one_grade.new.table.items refl (at_value _ _ c.one_grade.result c.one_grade.ensures.room (sym c.is_err.ensures.value ∙ c.if-is_err.false))) dues c.next_above-g-in-loop-g.ensures

pub returns : goal.returns
returns g c = grading_end c.loop-g.invariant c.requires (omega arith)
