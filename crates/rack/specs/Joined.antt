-- Two loads joined by the rows of a table.
use Rattle.std.specs.Prelude.{ℕ, ◌≡◌, List}
use Rattle.terms.specs.Order.{Before}
use Rattle.terms.specs.Table.{Row}
use Rattle.terms.specs.Settling.{NoneFits}
use Rattle.laws.specs.Strides.{Walks}
use Rattle.rack.specs.Racked.{costs_of}
use Rattle.rack.specs.declared.Meeting.{Meeting}
use Rattle.rack.specs.declared.Meeting.TheVariants.{Met, First, Second}

-- where the two loads end: they are one, or no row fits the later
abbrev pub Ends : List ℕ → List Row → List ℕ → List ℕ → Meeting → Type 0
Ends weights table x y Met = x ≡ y
Ends weights table x y First = Before (costs_of weights) y x × NoneFits table x
Ends weights table x y Second = Before (costs_of weights) x y × NoneFits table y

-- x₀ came to x and y₀ to y, and there they end
pub record Joined (weights : List ℕ) (table : List Row) (x₀ y₀ x y : List ℕ) (m : Meeting) : Type 0 where
  pub left : Walks table x₀ x
  pub right : Walks table y₀ y
  pub ends : Ends weights table x y m
