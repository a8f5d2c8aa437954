use Rattle.std.specs.Prelude.{ℕ, ◌*◌, ◌≡◌, length, take, Option, Ok, Err}
use Rattle.std.proofs.Common.{arith, rules, sym, ap, ◌∙◌}
use Rattle.sheet.proofs.Blocks as blocks
use Rattle.sheet.proofs.read_swaps.Goals as goal

pub returns-in_err-next : goal.returns-in_err-next
returns-in_err-next c =
    let a = c.args in
    let n = length a.sizes.now in
    let l = c.loop-at in
    let x = c.swap_line in
    let r : c.from_residual.result ≡ Err c.in_err-next.field-0.0 = search rules in
    rw r (tt, sym l.invariant.2 ∙ blocks.swap_refused n a.sizes.now l.used l.at a.text.now l.swaps x.new.swaps x.result c.loop-at-test.true x.ensures _ c.in_err-next.was)

pub loop-at-preserved : goal.loop-at-preserved
loop-at-preserved c =
    let a = c.args in
    let n = length a.sizes.now in
    let l = c.loop-at in
    let x = c.swap_line in
    let h = blocks.swap_on n a.sizes.now l.used l.at a.text.now l.swaps x.new.swaps x.result c.loop-at-test.true x.ensures _ (c.in_ok-next.was ∙ ap (λ (o : Option ℕ). Ok o) c.in-Some.is) in
    (omega (arith, h.0), x.auto.swaps ∙ l.invariant.1, h.1 ∙ l.invariant.2)

pub returns-after-loop-at : goal.returns-after-loop-at
returns-after-loop-at c =
    let a = c.args in
    let n = length a.sizes.now in
    let l = c.loop-at in
    (l.invariant.0, sym l.invariant.2 ∙ blocks.no_text n a.sizes.now l.used (take (l.used * (2 * n)) l.swaps) a.text.now l.at c.loop-at-test.false)

pub returns-in_default : goal.returns-in_default
returns-in_default c =
    let a = c.args in
    let n = length a.sizes.now in
    let l = c.loop-at in
    let x = c.swap_line in
    (l.invariant.0, sym l.invariant.2 ∙ blocks.swap_other n a.sizes.now l.used l.at a.text.now l.swaps x.new.swaps x.result c.loop-at-test.true x.ensures (c.in_ok-next.was ∙ ap (λ (o : Option ℕ). Ok o) c.in_default.is))
