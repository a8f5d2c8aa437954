use Rattle.std.specs.Prelude.{ℕ, ◌*◌, ◌≡◌, take, Option, Some, None, Ok, Err}
use Rattle.std.proofs.Common.{arith, rules, sym, ap, ◌∙◌}
use Rattle.terms.specs.declared.Refused.{Refused}
use Rattle.shapes.specs.Split.{wrong}
use Rattle.sheet.proofs.Blocks as blocks
use Rattle.sheet.proofs.read_loads.Goals as goal

pub returns-in_err-next : goal.returns-in_err-next
returns-in_err-next c =
    let a = c.args in
    let l = c.loop-at in
    let x = c.word_line in
    let r : c.from_residual.result ≡ Err c.in_err-next.field-0.0 = search rules in
    rw r (tt, sym l.invariant.2 ∙ blocks.load_refused a.n a.first l.used l.at a.text.now l.loads x.new.table x.result c.loop-at-test.true x.ensures _ c.in_err-next.was)

pub returns-in_err-at : goal.returns-in_err-at
returns-in_err-at c =
    let a = c.args in
    let l = c.loop-at in
    let x = c.word_line in
    let r : c.from_residual-in_err-at.result ≡ Err c.in_err-at.field-0.0 = search rules in
    let v = c.in_err-at.ensures in
    let o : c.in_ok-next.next ≡ None = search rules in
    let w : c.in_err-at.field-0.0 ≡ c.at.result = search rules in
    rw (r, w) (tt, sym l.invariant.2 ∙ blocks.load_other a.n a.first l.used l.at a.text.now l.loads x.new.table x.result c.loop-at-test.true x.ensures (c.in_ok-next.was ∙ ap (λ (o : Option ℕ). Ok o) o) ∙ ap (λ (f : Refused). wrong f.why f.place) (sym c.at.ensures))

pub loop-at-preserved : goal.loop-at-preserved
loop-at-preserved c =
    let a = c.args in
    let l = c.loop-at in
    let x = c.word_line in
    let o : c.in_ok-next.next ≡ Some c.in_ok-at.at = search rules in
    let h = blocks.load_on a.n a.first l.used l.at a.text.now l.loads x.new.table x.result c.loop-at-test.true x.ensures _ (c.in_ok-next.was ∙ ap (λ (o : Option ℕ). Ok o) o) in
    (omega (arith, h.0), x.auto.table ∙ l.invariant.1, h.1 ∙ l.invariant.2)

pub returns : goal.returns
returns c =
    let a = c.args in
    let l = c.loop-at in
    (l.invariant.0, sym l.invariant.2 ∙ blocks.no_loads a.n a.first l.used (take (l.used * a.n) l.loads) a.text.now l.at c.loop-at-test.false)
