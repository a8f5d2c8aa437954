use Rattle.std.specs.Prelude.{Err, refl}
use Rattle.std.proofs.Common.{ap, inl, inr}
use Rattle.sides.proofs.tested.Goals as goal

pub returns-then-not-unequal : goal.returns-then-not-unequal
returns-then-not-unequal c = inl (c.unequal.ensures.fails c.if-not-unequal.true, ap Err c.at.ensures)

pub returns-then-not-even : goal.returns-then-not-even
returns-then-not-even c = inr (c.unequal.ensures.holds c.if-not-unequal.false, inl (c.even.ensures.fails c.if-not-even.true, ap Err c.at-then-not-even.ensures))

pub returns : goal.returns
returns c = inr (c.unequal.ensures.holds c.if-not-unequal.false, inr (c.even.ensures.holds c.if-not-even.false, refl))
