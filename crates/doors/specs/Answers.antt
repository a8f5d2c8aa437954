-- What the calls answer, in numbers: 0 or the refusal number, and a place.
use Rattle.std.specs.Prelude.{ℕ, ◌≡◌, List, ℤ, Result, Ok, Err}
use Rattle.terms.specs.Order.{Before}
use Rattle.terms.specs.Refusals.{number_of}
use Rattle.terms.specs.declared.Refused.{Refused}
use Rattle.compare.specs.Earlier.{Fine}
use Rattle.complete.specs.Call.{Completing}
use Rattle.settle.specs.Call.{Settling}
use Rattle.sheet.specs.declared.Counts.{Counts}
use Rattle.sheet.specs.Sheet.{Reads}

-- 2 where the second load comes before the first, else 1; 0 where the input is refused
pub record EarlierIs (n : ℕ) (costs : List ℤ) (x y : List ℕ) (r : ℕ) : Type 0 where
  pub second : Fine n costs x y → Before costs y x → r ≡ 2
  pub first : Fine n costs x y → (Before costs y x → ⊥) → r ≡ 1
  pub refused : (Fine n costs x y → ⊥) → r ≡ 0

-- 0, or the reason's number
abbrev pub answer_number : {A : Type 0} → Result A Refused → ℕ
answer_number (Ok a) = 0
answer_number (Err refused) = number_of refused.why

-- the reason's place, 0 where there is none
abbrev pub answer_place : {A : Type 0} → Result A Refused → ℕ
answer_place (Ok a) = 0
answer_place (Err refused) = refused.place

-- complete: the number of rows, or the reason's place
abbrev pub complete_place : Result ℕ Refused → ℕ
complete_place (Ok rows) = rows
complete_place (Err refused) = refused.place

-- the numbers of an answer that the contract of complete allows
pub record CompleteIs (n bound : ℕ) (sizes : List ℕ) (costs : List ℤ) (swaps rules : List ℕ) (r : ℕ) (after : List ℕ) (place : ℕ) : Type 0 where
  pub answer : Result ℕ Refused
  pub made : Completing n bound sizes costs swaps rules (answer, after)
  pub number : r ≡ answer_number answer
  pub at : place ≡ complete_place answer

-- the numbers of an answer that the contract of settle allows
pub record SettleIs (n bound : ℕ) (sizes : List ℕ) (costs : List ℤ) (rules : List ℕ) (rows : ℕ) (load : List ℕ) (r : ℕ) (after : List ℕ) (place : ℕ) : Type 0 where
  pub answer : Result (Unit {0}) Refused
  pub made : Settling n bound sizes costs rules rows load (answer, after)
  pub number : r ≡ answer_number answer
  pub at : place ≡ answer_place answer

-- read a sheet: its counts, and where it is refused counts of 0
abbrev pub read_counts : Result Counts Refused → Counts
read_counts (Ok c) = c
read_counts (Err refused) = record { kinds = 0; bound = 0; swaps = 0; loads = 0 }

-- the numbers of an answer that the contract of read a sheet allows
pub record ReadIs (text sizes : List ℕ) (costs : List ℤ) (swaps loads : List ℕ) (r : ℕ) (sizes' : List ℕ) (costs' : List ℤ) (swaps' loads' : List ℕ) (counts : Counts) (line : ℕ) : Type 0 where
  pub answer : Result Counts Refused
  pub made : Reads text sizes costs swaps loads (record { answer = answer; sizes = sizes'; costs = costs'; swaps = swaps'; loads = loads' })
  pub number : r ≡ answer_number answer
  pub at : line ≡ answer_place answer
  pub has : counts ≡ read_counts answer
