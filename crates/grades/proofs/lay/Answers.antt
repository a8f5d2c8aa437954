use Rattle.std.proofs.Common.{[], refl, sym, ap, ◌∙◌, ◌*◌, ◌+◌, arith, rules}
use Rattle.std.proofs.lemmas.List.{length-map}
use Rattle.std.proofs.Math.ListN.{get_or-map}
use Rattle.terms.specs.Table.{Row}
use Rattle.rack.specs.Rows.{as_row}
use Rattle.rack.specs.declared.Row.{Row as Held}
use Rattle.grades.proofs.Laying.{part_long, laying_turn, laid_rows, laid_rest}
use Rattle.grades.proofs.lay.Goals as goal

abbrev no_row : Held
no_row = record { head = []; tail = [] }

pub loop-r-preserved : goal.loop-r-preserved
loop-r-preserved c =
    let rows = c.args.rows.now in
    let r = c.loop-r.r in
    let long = length-map rows as_row in
    let is = sym (get_or-map as_row rows r no_row) in
    laying_turn c.loop-r.invariant (omega (arith, c.loop-r-test.true, long)) (omega (arith, c.requires, long)) c.loop-r.auto.flat (as_row no_row) _ _
    (c.copy_from_slice.ensures.after ∙ ap (λ (a : Row). a.head) is) (c.copy_from_slice-in-loop-r.ensures.after ∙ ap (λ (a : Row). a.tail) is) (c.copy_from_slice.ensures.len ∙ part_long c.loop-r.flat (r * 24) (r * 24 + 12) refl (omega (arith, c.requires, c.loop-r-test.true, c.loop-r.auto.flat))) (search rules)

pub returns-clause-rows : goal.returns-clause-rows
returns-clause-rows c = laid_rows c.loop-r.invariant (sym (length-map c.args.rows.now as_row)) c.loop-r-test.false

pub returns-clause-rest : goal.returns-clause-rest
returns-clause-rest c = laid_rest c.loop-r.invariant (sym (length-map c.args.rows.now as_row)) c.loop-r-test.false c.loop-r.auto.r-end
