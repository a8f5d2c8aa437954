-- Any two results that the contract of `read_sheet` allows are the same. Assumes nothing.
use Rattle.std.specs.Prelude.{◌≡◌, List, ℕ, ℤ}
use Rattle.std.proofs.Common.{sym, ◌∙◌}
use Rattle.laws.specs.Outcome.{outcome_one}
use Rattle.sheet.specs.Sheet.{sheet_of, Result, result_of, tests, Reads}

pub reads_one : (text sizes : List ℕ) (costs : List ℤ) (swaps loads : List ℕ) (o p : Result) → Reads text sizes costs swaps loads o → Reads text sizes costs swaps loads p → o ≡ p
reads_one text sizes costs swaps loads o p a b =
    outcome_one (λ (x : Result). x ≡ result_of (sheet_of text)) (tests text sizes costs swaps loads) (λ _ x y e f. e ∙ sym f) o p a b
