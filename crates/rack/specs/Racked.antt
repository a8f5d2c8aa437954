-- The rows of the working table are proper, for a kit of 12 kinds with weights for costs.
use Rattle.std.specs.Prelude.{ℕ, ◌*◌, ◌≤◌, ◌≡◌, List, map, length, ℤ, pos}
use Rattle.terms.specs.Load.{grade}
use Rattle.terms.specs.Swaps.{◌∈◌}
use Rattle.terms.specs.Table.{Row}
use Rattle.terms.specs.Flat.{table_of}
use Rattle.terms.specs.Settling.{Proper}
use Rattle.laws.specs.Load.{From}
use Rattle.laws.specs.Flat.{Sided}

-- weights as costs
abbrev pub costs_of : List ℕ → List ℤ
costs_of weights = map pos weights

-- each row has 12 counts a side, and is proper
pub record Racked (bound : ℕ) (sizes weights : List ℕ) (T : List Row) : Type 0 where
  pub sizes_long : length sizes ≡ 12
  pub positive : From 1 sizes
  pub weights_long : length weights ≡ 12
  pub sided : Sided 12 T
  pub proper : (a : Row) → a ∈ T → Proper bound sizes (costs_of weights) a

-- some sizes, and a bound of at most 1,000, make them so
pub record Sound (weights : List ℕ) (T : List Row) : Type 0 where
  pub bound : ℕ
  pub small : bound ≤ 1000
  pub sizes : List ℕ
  pub racked : Racked bound sizes weights T

-- and x is a load within that bound
pub record Loaded (weights : List ℕ) (T : List Row) (x : List ℕ) : Type 0 where
  pub sound : Sound weights T
  pub long : length x ≡ 12
  pub within : grade sound.sizes x ≤ sound.bound

-- the first `rows` rows of a flat table lie in it, and are a sound table
abbrev pub FlatSound : List ℕ → List ℕ → ℕ → Type 0
FlatSound weights table rows = (rows * 24 ≤ length table) × Sound weights (table_of 12 table rows)

-- the first `rows` rows of a flat table lie in it, and x is a load within the bound of a sound table of them
abbrev pub FlatLoaded : List ℕ → List ℕ → ℕ → List ℕ → Type 0
FlatLoaded weights table rows x = (rows * 24 ≤ length table) × Loaded weights (table_of 12 table rows) x
