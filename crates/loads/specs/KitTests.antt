-- The tests of a kit's numbers, and what their outcome says of it.
use Rattle.std.specs.Prelude.{ℕ, ◌≡◌, List, [], ◌∷◌, Result, Ok, Err}
use Rattle.std.proofs.Common.{ap, inl, inr}
use Rattle.terms.specs.declared.Refused.{Refused}
use Rattle.terms.specs.declared.Refusal.TheVariants.{Kinds, Bound}
use Rattle.terms.specs.Limits.{KindsFine, BoundFine}
use Rattle.terms.specs.Answers.{refuse}
use Rattle.terms.specs.Outcome.{Test, must, Outcome}

-- in their sequence, each with its refusal at a place
abbrev pub kit_tests : ℕ → ℕ → ℕ → List (Test (Result (Unit {0}) Refused))
kit_tests n bound place = must (KindsFine n) (refuse Kinds place) ∷ must (BoundFine bound) (refuse Bound place) ∷ []

module _ (n bound place : ℕ) where
  -- an outcome that is no refusal: the kit is fine
  pub kit_passed : (r : Result (Unit {0}) Refused) → r ≡ Ok tt → Outcome (λ r. r ≡ Ok tt) (kit_tests n bound place) r → KindsFine n × BoundFine bound
  kit_passed r e (inl f) = let z = f.1 in cc
  kit_passed r e (inr (k, inl f)) = let z = f.1 in cc
  kit_passed r e (inr (k, inr (b, d))) = (k, b)

  -- a refusal is that of a call whose tests begin with these
  pub kit_stops : {X : Type 0} (accepted : Result (Unit {0}) Refused × X → Type 0) (x : X) (rest : List (Test (Result (Unit {0}) Refused × X))) (why : Refused)
      → Outcome (λ r. r ≡ Ok tt) (kit_tests n bound place) (Err why) → Outcome accepted (must (KindsFine n) (refuse Kinds place, x) ∷ must (BoundFine bound) (refuse Bound place, x) ∷ rest) (Err why, x)
  kit_stops accepted x rest why (inl f) = inl (f.0, ap (λ w. (w, x)) f.1)
  kit_stops accepted x rest why (inr (k, inl f)) = inr (k, inl (f.0, ap (λ w. (w, x)) f.1))
  kit_stops accepted x rest why (inr (k, inr (b, d))) = cc
