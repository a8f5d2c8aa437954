use Rattle.std.proofs.Common.{rules, ◌≡◌, not, length, ap, sym, ◌∙◌, Err}
use Rattle.shapes.proofs.Words as words
use Rattle.shapes.proofs.word_line_at.Goals as goal

pub returns-in_default : goal.returns-in_default
returns-in_default c = let a = c.args in words.word_miss a.line a.signed _ (length a.row.now) a.text.now a.at c.in_default.ensures

pub returns-in_err-next : goal.returns-in_err-next
returns-in_err-next c =
    let a = c.args in
    let e : c.from_residual.result ≡ Err c.in_err-next.field-0.0 = search rules in
    let h = words.word_hit a.line a.signed _ (length a.row.now) a.text.now a.at c.in-Some.place c.in-Some.ensures in
    rw e (ap not (sym h.0), h.1 ∙ c.in_err-next.ensures)

pub returns : goal.returns
returns c =
    let a = c.args in
    let h = words.word_hit a.line a.signed _ (length a.row.now) a.text.now a.at c.in-Some.place c.in-Some.ensures in
    (ap not (sym h.0), h.1 ∙ c.in_ok-next.ensures)
