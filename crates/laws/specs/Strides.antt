-- Steps by the first row that fits, one after the other.
use Rattle.std.specs.Prelude.{ℕ, ◌≡◌, List}
use Rattle.terms.specs.Swaps.{Step}
use Rattle.terms.specs.Table.{Row}
use Rattle.terms.specs.Settling.{FirstFit}

-- x comes to y by zero or more steps, each by the first row that fits
pub data Walks (table : List Row) : List ℕ → List ℕ → Type 0 where
  stop : {x y : List ℕ} → x ≡ y → Walks table x y
  more : {x y z : List ℕ} (a : Row) → FirstFit x a table → Step a.head a.tail x y → Walks table y z → Walks table x z

-- x comes to z by one such step or more
pub record Strides (table : List Row) (x z : List ℕ) : Type 0 where
  pub by : Row
  pub to : List ℕ
  pub fits : FirstFit x by table
  pub step : Step by.head by.tail x to
  pub on : Walks table to z
