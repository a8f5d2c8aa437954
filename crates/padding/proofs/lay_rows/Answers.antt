use Rattle.std.proofs.Common.{sym, ap, ◌∙◌, [], arith, length}
use Rattle.std.proofs.lemmas.List.{length-map}
use Rattle.std.proofs.Math.ListN.{get_or-map}
use Rattle.terms.specs.Table.{Row}
use Rattle.laws.specs.Flat.{row_in}
use Rattle.rack.specs.declared.Row.{Row as Held}
use Rattle.rack.specs.Rows.{as_row, as_rows}
use Rattle.padding.specs.Resize.{row_over, resize_next}
use Rattle.padding.proofs.lay_rows.Goals as goal

pub loop-r-preserved : goal.loop-r-preserved
loop-r-preserved c =
    let a = c.args in
    let l = c.loop-r in
    let past : Held = record { head = []; tail = [] } in
    let room = row_in a.n (length a.table.now) l.r (length a.rules.now) c.loop-r-test.true c.requires.0 in
    c.lay_row.ensures
    ∙ ap (λ (b : Row). row_over a.n b l.r l.rules) (sym (get_or-map as_row a.table.now l.r past))
    ∙ resize_next a.n (length a.rules.now) (as_rows a.table.now) l.r (as_row past) (omega (arith, length-map a.table.now as_row)) room l.rules l.invariant
