-- The list of pairs of rows of a working table that are to be joined.
use Rattle.std.specs.Prelude.{ℕ, zero, suc, ◌+◌, ◌≤◌, ◌<◌, ◌≡◌, List, length}
use Rattle.terms.specs.Load.{Fits, grade}
use Rattle.terms.specs.Swaps.{◌∈◌}
use Rattle.terms.specs.Table.{Row}
use Rattle.laws.specs.Load.{join, UpTo}
use Rattle.rack.specs.Rows.{head_at}
use Rattle.pairs.specs.declared.Pair.{Pair}

-- the least load that holds the heads of rows i and j
abbrev pub common : List Row → ℕ → ℕ → List ℕ
common T i j = join (head_at T i) (head_at T j)

-- how many pairs n rows have
abbrev pub triangle : ℕ → ℕ
triangle zero = 0
triangle (suc n) = n + triangle n

-- the pair of rows p and j stands on the list
abbrev pub Listed : List Pair → ℕ → ℕ → Type 0
Listed list p j = (a : Pair) × (a ∈ list) × (a.first ≡ p) × (a.second ≡ j)

-- a row p whose head fits in the least load of rows i and j is listed with j
abbrev pub Pivot : List Row → List Pair → ℕ → ℕ → Type 0
Pivot T list i j = (p : ℕ) × (p < j) × Fits (head_at T p) (common T i j) × Listed list p j

-- a pair of the first n rows, with the grade of their least load
pub record Entry (sizes : List ℕ) (T : List Row) (n : ℕ) (a : Pair) : Type 0 where
  pub apart : a.first < a.second
  pub below : a.second < n
  pub graded : a.due ≡ grade sizes (common T a.first a.second)

-- the first n rows have been entered: each of their pairs within the bound has a listed pivot
pub record PairList (bound : ℕ) (sizes : List ℕ) (T : List Row) (n : ℕ) (list : List Pair) : Type 0 where
  pub entries : (a : Pair) → a ∈ list → Entry sizes T n a
  pub cover : (i j : ℕ) → i < j → j < n → grade sizes (common T i j) ≤ bound → Pivot T list i j
  pub few : length list ≤ triangle n

-- r is the least of the grades that is above g and below the limit, or the limit where there is none
pub record NextAbove (grades : List ℕ) (g limit r : ℕ) : Type 0 where
  pub above : g < r
  pub within : r ≤ limit
  pub least : (d : ℕ) → d ∈ grades → g < d → d < limit → r ≤ d

-- twelve numbers, so small that twelve products of two have a sum that does not wrap
pub record Small (x : List ℕ) : Type 0 where
  pub long : length x ≡ 12
  pub up_to : UpTo 1000 x

-- what entering the first n rows asks of the kit and the table
pub record Enterable (bound : ℕ) (sizes : List ℕ) (T : List Row) (n : ℕ) : Type 0 where
  pub small_sizes : Small sizes
  pub small_heads : (r : ℕ) → r < n → UpTo 1000 (head_at T r)
  pub rows : n ≤ length T
  pub most : n ≤ 256
  pub bounded : bound ≤ 1000
