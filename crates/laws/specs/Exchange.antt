-- A step by a row or a swap: h taken out of x, and t put in.
-- Assumes nothing.
use Rattle.std.specs.Prelude.{ℕ, ◌+◌, ◌-◌, ◌<◌, ◌≡◌, List, length, get_or}
use Rattle.std.proofs.Common.{sym, ap, ◌∙◌, arith}
use Rattle.terms.specs.Load.{less, Fits}
use Rattle.terms.specs.Swaps.{exchange}
use Rattle.laws.specs.Load.{both_at, fits_length, length_both}

module _ (h t x : List ℕ) (fit : Fits h x) (tail-long : length t ≡ length x) where
  pub head_long : length h ≡ length x
  head_long = sym (fits_length h x fit)

  pub rest_long : length (less x h) ≡ length x
  rest_long = length_both ◌-◌ x h (sym head_long)

  pub exchange_long : length (exchange h t x) ≡ length x
  exchange_long = length_both ◌+◌ (less x h) t (rest_long ∙ sym tail-long) ∙ rest_long

  pub exchange_at : (i : ℕ) → i < length x → get_or (exchange h t x) i 0 ≡ get_or x i 0 - get_or h i 0 + get_or t i 0
  exchange_at i l =
      both_at ◌+◌ (less x h) t i (omega (arith, rest_long)) (omega (arith, tail-long))
      ∙ ap (λ (k : ℕ). k + get_or t i 0) (both_at ◌-◌ x h i l (omega (arith, head_long)))
