use Rattle.std.proofs.Common.{◌≡◌, sym, ap, ◌∙◌, length, take, length-take-le}
use Rattle.terms.specs.Flat.{table_of}
use Rattle.rack.specs.Rows.{as_rows}
use Rattle.grades.proofs.all_grades.Goals as goal

pub returns-clause-done : goal.returns-clause-done
returns-clause-done c =
    let a = c.args in
    let long : length (take a.count a.stamps.now) ≡ a.count = length-take-le a.count a.stamps.now c.requires.lent.1 in
    let laid : table_of 12 c.lay.new.flat c.len.result ≡ as_rows c.every_grade.new.table.items =
    ap (table_of 12 c.lay.new.flat) (c.len.ensures.value ∙ ap length (sym c.deref.ensures.0)) ∙ c.lay.ensures.rows ∙ ap as_rows c.deref.ensures.0 in
    rw (c.twelve.ensures, c.copy_from_slice.ensures.after, long, ← laid) at c.every_grade.ensures
