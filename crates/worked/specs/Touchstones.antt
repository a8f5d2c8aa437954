-- Touchstones: small facts over the definitions that each short cut breaks. The definitions come by way of
-- `Words`; with a short cut in the place of one, a fact here no longer holds, and the check says so.
use Rattle.std.specs.Prelude.{ℕ, ◌≡◌, refl, List, [], ◌∷◌, pos}
use Rattle.std.proofs.Common.{inl, inr, arith}
use Rattle.std.proofs.Math.Decide.{dec_le}
use Rattle.terms.specs.Flat.{sheet_of}
use Rattle.laws.specs.Load.{fits?}
use Rattle.laws.specs.Signed.{lt_true}
use Rattle.worked.specs.Examples.{kit_a, kit_t, kit_n, load_2, load_3, load_4}
use Rattle.worked.specs.Shown.{both?, each?, there?}
use Rattle.worked.specs.Still.{misfit?, idle?, no_step, alone}
use Rattle.worked.specs.Words.{Step, Reaches, Before}

-- P8: the row 1 0 1 2 → 0 0 4 0 does nothing to 1 0 0 2
pub row_needs_all : (y : List ℕ) → Step (load_4 1 0 1 2) (load_4 0 0 4 0) (load_4 1 0 0 2) y → ⊥
unfolding misfit? there? fits? dec_le
row_needs_all y s = no_step refl s

-- P10: in kit T the load 0 3 0 reaches itself alone, for want of the clamp
pub clamp_needed : (y : List ℕ) → Reaches (sheet_of 3 kit_t.swaps) (load_3 0 3 0) y → load_3 0 3 0 ≡ y
unfolding misfit? idle? there? both? each? fits? dec_le
clamp_needed y r = alone refl r

-- P7: in kit A the load 0 1 1 0 reaches itself alone, though its difference to 1 0 0 1 is a sum of swaps
pub steps_needed : (y : List ℕ) → Reaches (sheet_of 4 (kit_a 12).swaps) (load_4 0 1 1 0) y → load_4 0 1 1 0 ≡ y
unfolding misfit? idle? there? both? each? fits? dec_le
steps_needed y r = alone refl r

-- P9: at equal cost the smaller count comes first
pub smaller_first : Before kit_t.costs (load_3 1 0 1) (load_3 1 1 0)
smaller_first = inr (refl, inr (refl, inl (omega arith)))

-- P11: −3 is less than −2
pub signed_costs : Before (kit_n 5).costs (load_2 1 0) (load_2 0 1)
signed_costs = inl (lt_true _ _ refl)

-- 1 part at 1,000,000 costs less than 3,000 of them
pub exact_costs : Before (pos 1000000 ∷ []) (1 ∷ []) (3000 ∷ [])
exact_costs = inl (lt_true _ _ refl)
