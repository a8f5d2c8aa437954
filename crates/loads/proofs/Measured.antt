-- A turn of the sum of count times measure. A signed local is its bits: this takes the machine's readings off.
use Rattle.std.specs.Prelude.{ℕ, suc, ◌+◌, ◌*◌, ◌<◌, ◌≤◌, ◌≡◌, List, ◌∷◌, ℤ, pos, nat_abs, ◌+ℤ◌, ◌*ℤ◌}
use Rattle.std.specs.Int.{w64}
use Rattle.std.proofs.Common.{ap, ap₂, subst, sym, ◌∙◌, arith, add-mul, mul-le-mul, le_of_lt, to_z, of_z, SFits}
use Rattle.std.proofs.Math.IntN.{+ℤ_assoc}
use Rattle.std.proofs.lemmas.Int.{to_z-of_z}
use Rattle.terms.specs.Order.{cost}
use Rattle.laws.specs.Machine.{small}
use Rattle.laws.specs.Signed.{up, down, times_up, times_down, plus_up, plus_down, nat_abs_reads}

-- what is read back of a number that is small
read : (z w : ℤ) → z ≡ w → up w + down w < 9223372036854775808 → to_z w64 (of_z w64 z) ≡ w
read z w e h = ap (λ (k : ℤ). to_z w64 (of_z w64 k)) e ∙ to_z-of_z w64 w (small w h)

-- the sum is within 2 ^ 48 for each turn that is done, where `left` turns of `most` are not
abbrev pub Within : ℤ → ℕ → ℕ → Type 0
Within s left most = up s + down s + left * 281474976710656 ≤ most * 281474976710656

-- x times v, which the machine has as n and m
module _ (n m v : ℤ) (x : ℕ) (n_is : n ≡ pos x) (m_is : m ≡ v) (count_small : x < 65536) (measure_small : nat_abs v < 4294967296) where
  sides : up v + down v < 4294967296
  sides = omega (arith, nat_abs_reads v)

  term_small : up (pos x *ℤ v) + down (pos x *ℤ v) ≤ 281474976710656
  term_small =
      omega (arith, times_up x v, times_down x v, add-mul (up v) (down v) x, mul-le-mul (le_of_lt sides) (le_of_lt count_small))

  abbrev product : ℤ
  product = to_z w64 (of_z w64 n) *ℤ to_z w64 (of_z w64 m)

  product_is : product ≡ pos x *ℤ v
  product_is = ap₂ ◌*ℤ◌ (read n (pos x) n_is (omega arith)) (read m v m_is (omega (arith, sides)))

  pub product_fits : SFits w64 product
  product_fits = subst (SFits w64) (sym product_is) (small (pos x *ℤ v) (omega (arith, term_small)))

  -- the sum s takes it
  module _ (s : ℤ) (left most : ℕ) (room : Within s (suc left) most) (short : most ≤ 12) where
    abbrev total : ℤ
    total = s +ℤ to_z w64 (of_z w64 product)

    total_is : total ≡ s +ℤ (pos x *ℤ v)
    total_is = ap (λ (z : ℤ). s +ℤ z) (read product (pos x *ℤ v) product_is (omega (arith, term_small)))

    within : Within (s +ℤ (pos x *ℤ v)) left most
    within = omega (arith, plus_up s (pos x *ℤ v), plus_down s (pos x *ℤ v), term_small)

    sum_is : to_z w64 (of_z w64 total) ≡ s +ℤ (pos x *ℤ v)
    sum_is = read total (s +ℤ (pos x *ℤ v)) total_is (omega (arith, within))

    pub sum_fits : SFits w64 total
    sum_fits = subst (SFits w64) (sym total_is) (small (s +ℤ (pos x *ℤ v)) (omega (arith, within)))

    -- of the count y that comes next
    pub sum_left : (ms : List ℤ) (y : ℕ) (xs : List ℕ) (whole : ℤ) → x ≡ y → s +ℤ cost (v ∷ ms) (y ∷ xs) ≡ whole → to_z w64 (of_z w64 total) +ℤ cost ms xs ≡ whole
    sum_left ms y xs whole is e =
        ap (λ (z : ℤ). z +ℤ cost ms xs) sum_is ∙ +ℤ_assoc s _ _ ∙ ap (λ (n : ℕ). s +ℤ cost (v ∷ ms) (n ∷ xs)) is ∙ e

    pub sum_within : Within (to_z w64 (of_z w64 total)) left most
    sum_within = subst (λ (z : ℤ). Within z left most) (sym sum_is) within
