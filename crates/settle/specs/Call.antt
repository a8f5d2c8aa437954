-- The call settle: its tests in their sequence, and what acceptance says. An outcome is the answer and the load at exit.
use Rattle.std.specs.Prelude.{ℕ, ◌≤◌, ◌≡◌, List, [], ◌∷◌, ◌++◌, length, ℤ, Result, Ok}
use Rattle.terms.specs.declared.Refused.{Refused}
use Rattle.terms.specs.declared.Refusal.TheVariants.{Kinds, Bound, Length, Size, Cost, BadRow, OverBound}
use Rattle.terms.specs.Load.{grade}
use Rattle.terms.specs.Limits.{All, KindsFine, BoundFine, SizeFine, CostFine, most_rows}
use Rattle.terms.specs.Flat.{rows_lent, row_at, table_of}
use Rattle.terms.specs.Settling.{Proper, Settles}
use Rattle.terms.specs.Outcome.{Test, must, in_turn, Outcome}
use Rattle.terms.specs.Answers.{refuse}
use Rattle.loads.specs.Lent.{Lent}

-- sizes, costs and load have n numbers; the table has whole rows, at most 256, and no more are in use
pub record Lengths (n : ℕ) (sizes : List ℕ) (costs : List ℤ) (rules : List ℕ) (rows : ℕ) (load : List ℕ) : Type 0 where
  pub sizes_long : length sizes ≡ n
  pub costs_long : length costs ≡ n
  pub load_long : length load ≡ n
  pub table : Lent n most_rows rules
  pub in_use : rows ≤ rows_lent n rules

-- row i in use is proper; else refusal 9 with its number
abbrev pub row_test : ℕ → ℕ → List ℕ → List ℤ → List ℕ → List ℕ → ℕ → List (Test (Result (Unit {0}) Refused × List ℕ))
row_test n bound sizes costs rules load i = must (Proper bound sizes costs (row_at n rules i)) (refuse BadRow i, load) ∷ []

-- the tests in their sequence; each refusal leaves the load as it was
abbrev pub tests : ℕ → ℕ → List ℕ → List ℤ → List ℕ → ℕ → List ℕ → List (Test (Result (Unit {0}) Refused × List ℕ))
tests n bound sizes costs rules rows load =
    must (KindsFine n) (refuse Kinds 0, load)
    ∷ must (BoundFine bound) (refuse Bound 0, load)
    ∷ must (Lengths n sizes costs rules rows load) (refuse Length 0, load)
    ∷ must (All SizeFine sizes) (refuse Size 0, load)
    ∷ must (All CostFine costs) (refuse Cost 0, load)
    ∷ (in_turn rows (row_test n bound sizes costs rules load) ++ (must (grade sizes load ≤ bound) (refuse OverBound 0, load) ∷ []))

-- accepted: done, and the load at exit is the one that the table settles it to
abbrev pub Accepted : ℕ → List ℕ → ℕ → List ℕ → Result (Unit {0}) Refused × List ℕ → Type 0
Accepted n rules rows load o = (o.0 ≡ Ok tt) × Settles (table_of n rules rows) load o.1

-- what the contract of settle says of an outcome
abbrev pub Settling : ℕ → ℕ → List ℕ → List ℤ → List ℕ → ℕ → List ℕ → Result (Unit {0}) Refused × List ℕ → Type 0
Settling n bound sizes costs rules rows load = Outcome (Accepted n rules rows load) (tests n bound sizes costs rules rows load)
