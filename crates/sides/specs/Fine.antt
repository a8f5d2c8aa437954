-- The swaps that a sheet may have.
use Rattle.std.specs.Prelude.{ℕ, ◌≤◌, ◌<◌, ◌≡◌, List, [], ◌∷◌, Result}
use Rattle.terms.specs.declared.Refused.{Refused}
use Rattle.terms.specs.declared.Refusal.TheVariants.{SameSides, UnequalGrades}
use Rattle.terms.specs.Answers.{refuse}
use Rattle.terms.specs.Outcome.{Test, must}
use Rattle.terms.specs.Load.{grade}
use Rattle.terms.specs.Swaps.{Swap}
use Rattle.terms.specs.Flat.{swap_at}

-- the sides of a swap are not one load, and have one grade
abbrev pub Unequal : Swap → Type 0
Unequal s = s.left ≡ s.right → ⊥

abbrev pub Even : List ℕ → Swap → Type 0
Even sizes s = grade sizes s.left ≡ grade sizes s.right

-- the tests of a swap in their sequence, each with its refusal at a place
abbrev pub side_tests : List ℕ → Swap → ℕ → List (Test (Result (Unit {0}) Refused))
side_tests sizes s place = must (Unequal s) (refuse SameSides place) ∷ must (Even sizes s) (refuse UnequalGrades place) ∷ []

-- r is the lowest of the first `count` swaps that is not so, or `count` where all are
pub record LowestBad (n : ℕ) (sizes swaps : List ℕ) (count r : ℕ) : Type 0 where
  pub within : r ≤ count
  pub fine : (i : ℕ) → i < r → Unequal (swap_at n swaps i) × Even sizes (swap_at n swaps i)
  pub bad : r < count → Unequal (swap_at n swaps r) → Even sizes (swap_at n swaps r) → ⊥
