-- What a call does, by its tests in their sequence. An outcome is the answer with what every lent buffer then holds.
use Rattle.std.specs.Prelude.{ℕ, zero, suc, ◌≡◌, ◌⊎◌, List, [], ◌∷◌, ◌++◌}

-- one test: what has to hold, and the outcome where it does not
pub record Test (O : Type 0) : Type 1 where
  pub holds : Type 0
  pub otherwise : O

abbrev pub must : {O : Type 0} → Type 0 → O → Test O
must P o = record { holds = P; otherwise = o }

-- the tests of numbers 0 to k - 1, one after the other
abbrev pub in_turn : {O : Type 0} → ℕ → (ℕ → List (Test O)) → List (Test O)
in_turn zero tests = []
in_turn (suc k) tests = tests 0 ++ in_turn k (λ i. tests (suc i))

-- the outcome of the first test that does not hold; where all hold, what acceptance says
abbrev pub Outcome : {O : Type 0} → (O → Type 0) → List (Test O) → O → Type 0
Outcome accepted [] o = accepted o
Outcome accepted (t ∷ ts) o = ((t.holds → ⊥) × (o ≡ t.otherwise)) ⊎ (t.holds × Outcome accepted ts o)
