-- The call complete: its tests in their sequence, and what acceptance says. An outcome is the answer and the rule table at exit.
use Rattle.std.specs.Prelude.{ℕ, ◌≤◌, ◌≡◌, List, [], ◌∷◌, ◌++◌, length, ℤ, Result, Ok}
use Rattle.terms.specs.declared.Refused.{Refused}
use Rattle.terms.specs.declared.Refusal.TheVariants.{Kinds, Bound, Length, Size, Cost, SameSides, UnequalGrades, NoRoom}
use Rattle.terms.specs.Load.{zeros, grade}
use Rattle.terms.specs.Limits.{All, KindsFine, BoundFine, SizeFine, CostFine, most_swaps, most_rows}
use Rattle.terms.specs.Swaps.{Reaches}
use Rattle.terms.specs.Table.{Row, Finished}
use Rattle.terms.specs.Flat.{left_at, right_at, rows_lent, sheet_of, filled}
use Rattle.terms.specs.Outcome.{Test, must, in_turn, Outcome}
use Rattle.terms.specs.Answers.{refuse}
use Rattle.loads.specs.Lent.{Lent}

-- sizes and costs have n numbers; the sheet has whole swaps, at most 64, and the rule table whole rows, at most 256
pub record Lengths (n : ℕ) (sizes : List ℕ) (costs : List ℤ) (swaps rules : List ℕ) : Type 0 where
  pub sizes_long : length sizes ≡ n
  pub costs_long : length costs ≡ n
  pub sheet : Lent n most_swaps swaps
  pub table : Lent n most_rows rules

-- the sides of swap i are not equal, else refusal 6, and have equal grades, else refusal 7; A is what an Ok has
abbrev pub swap_tests : {A : Type 0} → ℕ → List ℕ → List ℕ → List ℕ → ℕ → List (Test (Result A Refused × List ℕ))
swap_tests n sizes swaps rules i =
    must (left_at n swaps i ≡ right_at n swaps i → ⊥) (refuse SameSides i, rules)
    ∷ must (grade sizes (left_at n swaps i) ≡ grade sizes (right_at n swaps i)) (refuse UnequalGrades i, rules)
    ∷ []

-- the tests of what is lent, in their sequence; each refusal leaves the rule table as it was
abbrev pub input_tests : {A : Type 0} → ℕ → ℕ → List ℕ → List ℤ → List ℕ → List ℕ → List (Test (Result A Refused × List ℕ))
input_tests n bound sizes costs swaps rules =
    must (KindsFine n) (refuse Kinds 0, rules)
    ∷ must (BoundFine bound) (refuse Bound 0, rules)
    ∷ must (Lengths n sizes costs swaps rules) (refuse Length 0, rules)
    ∷ must (All SizeFine sizes) (refuse Size 0, rules)
    ∷ must (All CostFine costs) (refuse Cost 0, rules)
    ∷ in_turn (rows_lent n swaps) (swap_tests n sizes swaps rules)

-- T is the finished table of the kit and its sheet
abbrev pub IsFinished : ℕ → ℕ → List ℕ → List ℤ → List ℕ → List Row → Type 0
IsFinished n bound sizes costs swaps = Finished n bound sizes costs (Reaches (sheet_of n swaps))

-- the finished table has no more rows than the room
abbrev pub HasRoom : ℕ → ℕ → List ℕ → List ℤ → List ℕ → List ℕ → Type 0
HasRoom n bound sizes costs swaps rules = (T : List Row) → IsFinished n bound sizes costs swaps T → length T ≤ rows_lent n rules

-- the last test, of the room; its refusal 8 leaves the whole rule table 0
abbrev pub room_test : ℕ → ℕ → List ℕ → List ℤ → List ℕ → List ℕ → List (Test (Result ℕ Refused × List ℕ))
room_test n bound sizes costs swaps rules = must (HasRoom n bound sizes costs swaps rules) (refuse NoRoom 0, zeros (length rules)) ∷ []

abbrev pub tests : ℕ → ℕ → List ℕ → List ℤ → List ℕ → List ℕ → List (Test (Result ℕ Refused × List ℕ))
tests n bound sizes costs swaps rules = input_tests n bound sizes costs swaps rules ++ room_test n bound sizes costs swaps rules

-- accepted: the number of the finished table's rows; the rule table at exit has its rows first, and then 0
abbrev pub Accepted : ℕ → ℕ → List ℕ → List ℤ → List ℕ → List ℕ → Result ℕ Refused × List ℕ → Type 0
Accepted n bound sizes costs swaps rules o =
    (T : List Row) × IsFinished n bound sizes costs swaps T × (o.0 ≡ Ok (length T)) × (o.1 ≡ filled (length rules) T)

-- what the contract of complete says of an outcome
abbrev pub Completing : ℕ → ℕ → List ℕ → List ℤ → List ℕ → List ℕ → Result ℕ Refused × List ℕ → Type 0
Completing n bound sizes costs swaps rules = Outcome (Accepted n bound sizes costs swaps rules) (tests n bound sizes costs swaps rules)

-- and of one that has come to the last test
abbrev pub Finishing : ℕ → ℕ → List ℕ → List ℤ → List ℕ → List ℕ → Result ℕ Refused × List ℕ → Type 0
Finishing n bound sizes costs swaps rules = Outcome (Accepted n bound sizes costs swaps rules) (room_test n bound sizes costs swaps rules)
