-- Computed tests of single steps: that a side does not fit in a load, and that no swap of a sheet does anything to it.
-- Assumes nothing.
use Rattle.std.specs.Prelude.{ℕ, ◌≡◌, true, List}
use Rattle.std.proofs.Common.{subst, sym}
use Rattle.std.proofs.Math.Option.{Option, none, some}
use Rattle.terms.specs.Load.{Fits}
use Rattle.terms.specs.Limits.{All}
use Rattle.terms.specs.Swaps.{Swap, Step, Reaches, Reaches.stay, Reaches.forth, Reaches.back}
use Rattle.laws.specs.Load.{fits?}
use Rattle.worked.specs.Shown.{both?, each?, there?, taken, all_in}

unfoldable pub misfit? : (h x : List ℕ) → Option (Fits h x → ⊥)
misfit? h x = go (fits? h x)
  where
    go : Dec (Fits h x) → Option (Fits h x → ⊥)
    go (yes w) = none
    go (no n) = some n

pub no_step : {h t x y : List ℕ} → there? (misfit? h x) ≡ true → Step h t x y → ⊥
no_step {h} {x = x} e s = taken (misfit? h x) e s.fits

-- neither side of a swap fits
abbrev pub Idle : List ℕ → Swap → Type 0
Idle x s = (Fits s.left x → ⊥) × (Fits s.right x → ⊥)

unfoldable pub idle? : (sheet : List Swap) (x : List ℕ) → Option (All (Idle x) sheet)
idle? sheet x = each? (λ s. both? (misfit? s.left x) (misfit? s.right x)) sheet

-- so the load reaches itself and no other
pub alone : {sheet : List Swap} {x y : List ℕ} → there? (idle? sheet x) ≡ true → Reaches sheet x y → x ≡ y
alone {sheet} {x} e r = go (taken (idle? sheet x) e) r
  where
    go : All (Idle x) sheet → {y : List ℕ} → Reaches sheet x y → x ≡ y
    go idle (stay q) = q
    go idle (forth s m q st) = absurd ((all_in (Idle x) sheet idle s m).0 (subst (Fits s.left) (sym (go idle q)) st.fits))
    go idle (back s m q st) = absurd ((all_in (Idle x) sheet idle s m).1 (subst (Fits s.right) (sym (go idle q)) st.fits))
