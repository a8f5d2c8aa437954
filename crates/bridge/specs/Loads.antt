-- Loads as lists and as the theory's loads: one part taken out, and one side exchanged for the other.
-- Assumes nothing.
use Rattle.std.specs.Prelude.{ℕ, zero, suc, ◌-◌, ◌<◌, ◌≡◌, refl, List, [], ◌∷◌, length, get_or}
use Rattle.std.proofs.Common.{ap, ap₂, ◌∙◌, arith, length-set}
use Rattle.terms.specs.Load.{plus, without_one}
use Rattle.terms.specs.Swaps.{exchange}
use Rattle.laws.specs.Load.{unit, plus_comm, plus_zeros, less_plus}

-- a kind of which a load has a part is one of its kinds
pub kind_of_part : (h : List ℕ) (i : ℕ) → 0 < get_or h i 0 → i < length h
kind_of_part [] i l = absurd (omega arith)
kind_of_part (h ∷ hs) zero l = omega arith
kind_of_part (h ∷ hs) (suc i) l = omega (arith, kind_of_part hs i l)

pub length_without : (i : ℕ) (h : List ℕ) → length (without_one i h) ≡ length h
length_without i h = length-set h i (get_or h i 0 - 1)

-- one part taken out and put back
pub without_back : (h : List ℕ) (i : ℕ) → 0 < get_or h i 0 → plus (without_one i h) (unit (length h) i) ≡ h
without_back [] i l = refl
without_back (h ∷ hs) zero l = ap₂ ◌∷◌ (omega arith) (plus_zeros hs)
without_back (h ∷ hs) (suc i) l = ap₂ ◌∷◌ (omega arith) (without_back hs i l)

-- one part put in and taken out
pub back_without : (d : List ℕ) (i : ℕ) → i < length d → without_one i (plus d (unit (length d) i)) ≡ d
back_without [] i l = refl
back_without (d ∷ ds) zero l = ap₂ ◌∷◌ (omega arith) (plus_zeros ds)
back_without (d ∷ ds) (suc i) l = ap₂ ◌∷◌ (omega arith) (back_without ds i (omega arith))

pub part_there : (d : List ℕ) (i : ℕ) → i < length d → 0 < get_or (plus d (unit (length d) i)) i 0
part_there [] i l = absurd (omega arith)
part_there (d ∷ ds) zero l = omega arith
part_there (d ∷ ds) (suc i) l = part_there ds i (omega arith)

-- h and what is left, exchanged: t and what is left
pub exchange_rest : (h t c : List ℕ) → length c ≡ length h → exchange h t (plus h c) ≡ plus t c
exchange_rest h t c e = ap (λ (r : List ℕ). plus r t) (less_plus h c e) ∙ plus_comm c t
