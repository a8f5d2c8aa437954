-- The candidates while row j is entered: rows, each with the grade of its least load with row j.
use Rattle.std.specs.Prelude.{ℕ, ◌≤◌, ◌<◌, ◌≡◌, ◌⊎◌, List, length}
use Rattle.terms.specs.Load.{Fits, grade}
use Rattle.terms.specs.Swaps.{◌∈◌}
use Rattle.terms.specs.Table.{Row}
use Rattle.rack.specs.Rows.{head_at}
use Rattle.pairs.specs.declared.Candidate.{Candidate}
use Rattle.pairs.specs.declared.Pair.{Pair}
use Rattle.pairs.specs.Pairs.{common}

-- row i is a candidate
abbrev pub Among : List Candidate → ℕ → Type 0
Among candidates i = (a : Candidate) × (a ∈ candidates) × (a.row ≡ i)

-- each candidate is a row below `rows`
abbrev pub AllBelow : ℕ → List Candidate → Type 0
AllBelow rows candidates = (a : Candidate) → a ∈ candidates → a.row < rows

-- each candidate is a row below `rows`, with its grade
pub record Graded (sizes : List ℕ) (T : List Row) (j rows : ℕ) (candidates : List Candidate) : Type 0 where
  pub below : (a : Candidate) → a ∈ candidates → a.row < rows
  pub graded : (a : Candidate) → a ∈ candidates → a.grade ≡ grade sizes (common T a.row j)

-- the candidates are the rows below `rows` whose least load with row j is within the bound
pub record Picked (bound : ℕ) (sizes : List ℕ) (T : List Row) (j rows : ℕ) (candidates : List Candidate) : Type 0 where
  pub right : Graded sizes T j rows candidates
  pub all : (i : ℕ) → i < rows → grade sizes (common T i j) ≤ bound → Among candidates i
  pub few : length candidates ≤ rows

-- all candidates are kept but some in whose least load with row j the head of row p fits, and p is not kept
pub record Sifted (T : List Row) (p j : ℕ) (candidates left : List Candidate) : Type 0 where
  pub from : (a : Candidate) → a ∈ left → a ∈ candidates
  pub kept : (a : Candidate) → a ∈ candidates → (a ∈ left) ⊎ Fits (head_at T p) (common T a.row j)
  pub fewer : Among candidates p → length left < length candidates
  pub few : length left ≤ length candidates

-- a candidate became the pair with row j, and the candidates were sifted by it
pub record Taken (T : List Row) (j : ℕ) (candidates : List Candidate) (pair : Pair) (left : List Candidate) : Type 0 where
  pub pivot : Candidate
  pub among : pivot ∈ candidates
  pub paired : pair ≡ record { due = pivot.grade; first = pivot.row; second = j }
  pub sifted : Sifted T pivot.row j candidates left
