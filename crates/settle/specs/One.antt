-- The contract of settle allows one outcome.
-- Assumes nothing.
use Rattle.std.specs.Prelude.{ℕ, ◌≡◌, List, ℤ, Result}
use Rattle.std.proofs.Common.{sym, ◌∙◌}
use Rattle.terms.specs.declared.Refused.{Refused}
use Rattle.laws.specs.Outcome.{outcome_one}
use Rattle.bridge.specs.Settling.{settles_one}
use Rattle.settle.specs.Call.{tests, Accepted, Settling}

-- two outcomes that the contract allows are the same: one answer, and one load at exit
pub settling_one : (n bound : ℕ) (sizes : List ℕ) (costs : List ℤ) (rules : List ℕ) (rows : ℕ) (load : List ℕ) (o p : Result (Unit {0}) Refused × List ℕ) → Settling n bound sizes costs rules rows load o → Settling n bound sizes costs rules rows load p → o ≡ p
settling_one n bound sizes costs rules rows load =
    outcome_one (Accepted n rules rows load) (tests n bound sizes costs rules rows load) (λ h o p a b. pair_of (a.0 ∙ sym b.0) (settles_one a.1 b.1))
  where
    pair_of : {o p : Result (Unit {0}) Refused × List ℕ} → o.0 ≡ p.0 → o.1 ≡ p.1 → o ≡ p
    pair_of e f = λ i. (e i, f i)
