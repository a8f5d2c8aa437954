-- The contract of complete allows one outcome.
--     completing_one    two outcomes that the contract allows are the same: one answer, and one rule table at exit
-- Assumes nothing.
use Rattle.std.specs.Prelude.{ℕ, ◌≡◌, List, length, ℤ, Result, Ok}
use Rattle.std.proofs.Common.{sym, ap, ◌∙◌}
use Rattle.terms.specs.declared.Refused.{Refused}
use Rattle.terms.specs.Table.{Row}
use Rattle.terms.specs.Flat.{sheet_of, filled}
use Rattle.laws.specs.Outcome.{outcome_one, append_hold}
use Rattle.bridge.specs.Regular.{reaches_regular}
use Rattle.bridge.specs.Theorems.{finished_exists, finished_unique}
use Rattle.complete.specs.Call.{input_tests, IsFinished, room_test, tests, Accepted, Completing}
use Rattle.complete.specs.Passed.{Fit, fine_kit, fit_of}

pair_of : {o p : Result ℕ Refused × List ℕ} → o.0 ≡ p.0 → o.1 ≡ p.1 → o ≡ p
pair_of e f = λ i. (e i, f i)

-- there is one finished table
module _ {n bound : ℕ} {sizes : List ℕ} {costs : List ℤ} {swaps : List ℕ} (fit : Fit n bound sizes costs swaps) where
  pub finished_some : (T : List Row) × IsFinished n bound sizes costs swaps T
  finished_some = finished_exists costs (fine_kit fit.kit) (sheet_of n swaps) fit.sheet bound

  pub finished_one : {T U : List Row} → IsFinished n bound sizes costs swaps T → IsFinished n bound sizes costs swaps U → T ≡ U
  finished_one f g = finished_unique costs (fine_kit fit.kit) (reaches_regular costs (fine_kit fit.kit) (sheet_of n swaps) fit.sheet) f g

module _ (n bound : ℕ) (sizes : List ℕ) (costs : List ℤ) (swaps rules : List ℕ) where
  accepted_one : Fit n bound sizes costs swaps → (o p : Result ℕ Refused × List ℕ) → Accepted n bound sizes costs swaps rules o → Accepted n bound sizes costs swaps rules p → o ≡ p
  accepted_one fit o p a b =
      let e : a.0 ≡ b.0 = finished_one fit a.1 b.1 in
      pair_of (a.2 ∙ ap (λ (T : List Row). Ok (length T)) e ∙ sym b.2) (a.3 ∙ ap (filled (length rules)) e ∙ sym b.3)

  pub completing_one : (o p : Result ℕ Refused × List ℕ) → Completing n bound sizes costs swaps rules o → Completing n bound sizes costs swaps rules p → o ≡ p
  completing_one =
      outcome_one (Accepted n bound sizes costs swaps rules) (tests n bound sizes costs swaps rules) (λ h. accepted_one (fit_of n bound sizes costs swaps rules (append_hold (input_tests n bound sizes costs swaps rules) (room_test n bound sizes costs swaps rules) h).0))
