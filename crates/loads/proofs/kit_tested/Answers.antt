use Rattle.std.specs.Prelude.{Err, refl}
use Rattle.std.proofs.Common.{ap, inl, inr, arith}
use Rattle.loads.proofs.kit_tested.Goals as goal

pub returns-then-not-in_range : goal.returns-then-not-in_range
returns-then-not-in_range c = inl (λ k. c.in_range.ensures.fails c.if-not-in_range.true (k.0, omega (arith, k.1)), ap Err c.at.ensures)

pub returns-then-not-in_range-2 : goal.returns-then-not-in_range-2
returns-then-not-in_range-2 c = inr (c.in_range.ensures.holds c.if-not-in_range.false, inl (λ b. c.in_range-2.ensures.fails c.if-not-in_range-2.true (b.0, omega (arith, b.1)), ap Err c.at-then-not-in_range-2.ensures))

pub returns : goal.returns
returns c = inr (c.in_range.ensures.holds c.if-not-in_range.false, inr (c.in_range-2.ensures.holds c.if-not-in_range-2.false, refl))
