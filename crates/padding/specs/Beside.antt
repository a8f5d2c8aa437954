-- Loads put beside others: x ++ z has the counts of x, and then those of z for further kinds.
-- Assumes nothing.
use Rattle.std.specs.Prelude.{ℕ, zero, suc, ◌+◌, ◌-◌, ◌<◌, ◌≡◌, refl, ◌⊎◌, List, [], ◌∷◌, ◌++◌, length, replicate, set, get_or, ℤ, pos, ◌+ℤ◌, ◌*ℤ◌}
use Rattle.std.proofs.Common.{sym, ap, ap₂, ◌∙◌, inl, inr, ⊎_elim, arith, get_or-append-add, get_or-set_same}
use Rattle.std.proofs.lemmas.List.{length-replicate, set-append_left}
use Rattle.std.proofs.Math.ListN.{get_or-append}
use Rattle.terms.specs.Load.{both, plus, less, zeros, Fits, grade, without_one}
use Rattle.terms.specs.Order.{cost, Lex}
use Rattle.terms.specs.Swaps.{exchange}
use Rattle.laws.specs.Load.{plus_zeros, fits_at, unit, zero_or_unit}
use Rattle.laws.specs.Order.{lex_irrefl}
use Rattle.laws.specs.Signed.{same, plus_reads, times_up, times_down}

suc_inj : {a b : ℕ} → suc a ≡ suc b → a ≡ b
suc_inj e = omega arith

-- ---- kind by kind

pub both_beside : (f : ℕ → ℕ → ℕ) (x y a b : List ℕ) → length x ≡ length y → both f (x ++ a) (y ++ b) ≡ both f x y ++ both f a b
both_beside f [] [] a b e = refl
both_beside f [] (y ∷ ys) a b e = absurd (omega arith)
both_beside f (x ∷ xs) [] a b e = absurd (omega arith)
both_beside f (x ∷ xs) (y ∷ ys) a b e = ap (λ (l : List ℕ). f x y ∷ l) (both_beside f xs ys a b (suc_inj e))

less_zeros : (x : List ℕ) → less x (zeros (length x)) ≡ x
less_zeros [] = refl
less_zeros (x ∷ xs) = ap₂ ◌∷◌ (omega arith) (less_zeros xs)

pub fits_beside : (h x a b : List ℕ) → Fits h x → Fits a b → Fits (h ++ a) (x ++ b)
fits_beside [] [] a b w v = v
fits_beside [] (x ∷ xs) a b w v = absurd w
fits_beside (h ∷ hs) [] a b w v = absurd w
fits_beside (h ∷ hs) (x ∷ xs) a b w v = (w.0, fits_beside hs xs a b w.1 v)

pub fits_front : (h x a b : List ℕ) → length h ≡ length x → Fits (h ++ a) (x ++ b) → Fits h x
fits_front [] [] a b e w = tt
fits_front [] (x ∷ xs) a b e w = absurd (omega arith)
fits_front (h ∷ hs) [] a b e w = absurd (omega arith)
fits_front (h ∷ hs) (x ∷ xs) a b e w = (w.0, fits_front hs xs a b (suc_inj e) w.1)

-- an exchange of the first kinds leaves the further ones alone
pub exchange_beside : (h t x z : List ℕ) → length h ≡ length x → length t ≡ length (less x h) → exchange (h ++ zeros (length z)) (t ++ zeros (length z)) (x ++ z) ≡ exchange h t x ++ z
exchange_beside h t x z e d =
    ap (λ (l : List ℕ). plus l (t ++ zeros (length z))) (both_beside ◌-◌ x h z (zeros (length z)) (sym e))
    ∙ both_beside ◌+◌ (less x h) t (less z (zeros (length z))) (zeros (length z)) (sym d)
    ∙ ap (λ (l : List ℕ). exchange h t x ++ l) (ap (λ (l : List ℕ). plus l (zeros (length z))) (less_zeros z) ∙ plus_zeros z)

-- ---- sums

pub grade_beside : (ws vs x z : List ℕ) → length x ≡ length ws → grade (ws ++ vs) (x ++ z) ≡ grade ws x + grade vs z
grade_beside [] vs [] z e = omega arith
grade_beside [] vs (x ∷ xs) z e = absurd (omega arith)
grade_beside (w ∷ ws) vs [] z e = absurd (omega arith)
grade_beside (w ∷ ws) vs (x ∷ xs) z e = omega (arith, grade_beside ws vs xs z (suc_inj e))

pub grade_none : (ws : List ℕ) (k : ℕ) → grade ws (zeros k) ≡ 0
grade_none [] k = refl
grade_none (w ∷ ws) zero = refl
grade_none (w ∷ ws) (suc k) = omega (arith, grade_none ws k)

cost_free : (k : ℕ) (z : List ℕ) → cost (replicate k (pos 0)) z ≡ pos 0
cost_free zero z = refl
cost_free (suc k) [] = refl
cost_free (suc k) (z ∷ zs) =
    ap (λ (c : ℤ). (pos z *ℤ pos 0) +ℤ c) (cost_free k zs)
    ∙ same ((pos z *ℤ pos 0) +ℤ pos 0) (pos 0) (omega (arith, plus_reads (pos z *ℤ pos 0) (pos 0), times_up z (pos 0), times_down z (pos 0)))

pub cost_beside : (cs : List ℤ) (k : ℕ) (x z : List ℕ) → length x ≡ length cs → cost (cs ++ replicate k (pos 0)) (x ++ z) ≡ cost cs x
cost_beside [] k [] z e = cost_free k z
cost_beside [] k (x ∷ xs) z e = absurd (omega arith)
cost_beside (c ∷ cs) k [] z e = absurd (omega arith)
cost_beside (c ∷ cs) k (x ∷ xs) z e = ap (λ (d : ℤ). (pos x *ℤ c) +ℤ d) (cost_beside cs k xs z (suc_inj e))

-- ---- by counts

pub lex_beside : (x y z : List ℕ) → Lex x y → Lex (x ++ z) (y ++ z)
lex_beside [] y z h = absurd h
lex_beside (x ∷ xs) [] z h = absurd h
lex_beside (x ∷ xs) (y ∷ ys) z (inl l) = inl l
lex_beside (x ∷ xs) (y ∷ ys) z (inr p) = inr (p.0, lex_beside xs ys z p.1)

pub lex_front : (x y z : List ℕ) → length x ≡ length y → Lex (x ++ z) (y ++ z) → Lex x y
lex_front [] [] z e h = lex_irrefl z h
lex_front [] (y ∷ ys) z e h = absurd (omega arith)
lex_front (x ∷ xs) [] z e h = absurd (omega arith)
lex_front (x ∷ xs) (y ∷ ys) z e (inl l) = inl l
lex_front (x ∷ xs) (y ∷ ys) z e (inr p) = inr (p.0, lex_front xs ys z (suc_inj e) p.1)

-- ---- one part taken out

pub without_front : (x z : List ℕ) (i : ℕ) → i < length x → without_one i (x ++ z) ≡ without_one i x ++ z
without_front x z i l =
    ap (λ (k : ℕ). set (x ++ z) i (k - 1)) (get_or-append x z 0 i l) ∙ set-append_left x z i (get_or x i 0 - 1) l

set_beside : (x z : List ℕ) (j a : ℕ) → set (x ++ z) (length x + j) a ≡ x ++ set z j a
set_beside [] z j a = ap (λ (k : ℕ). set z k a) (omega arith)
set_beside (x ∷ xs) z j a = ap (λ (k : ℕ). set (x ∷ (xs ++ z)) k a) (step (length xs) j) ∙ ap (λ (l : List ℕ). x ∷ l) (set_beside xs z j a)
  where
    step : (k j : ℕ) → suc k + j ≡ suc (k + j)
    step k j = omega arith

pub without_beside : (x z : List ℕ) (j : ℕ) → without_one (length x + j) (x ++ z) ≡ x ++ without_one j z
without_beside x z j =
    ap (λ (k : ℕ). set (x ++ z) (length x + j) (k - 1)) (get_or-append-add x z j 0) ∙ set_beside x z j (get_or z j 0 - 1)

-- a load has no part, or one of some kind
pub zero_or_part : (x : List ℕ) → (x ≡ zeros (length x)) ⊎ ((i : ℕ) × (0 < get_or x i 0))
zero_or_part x = ⊎_elim inl found (zero_or_unit x)
  where
    found : ((i : ℕ) × (i < length x) × Fits (unit (length x) i) x) → (x ≡ zeros (length x)) ⊎ ((i : ℕ) × (0 < get_or x i 0))
    found t =
        let l : t.0 < length (zeros (length x)) = rw (length-replicate {A = ℕ} (length x) 0) t.1 in
        inr (t.0, omega (arith, fits_at (unit (length x) t.0) x t.0 t.2, get_or-set_same (zeros (length x)) t.0 1 0 l))

pub zeros_none : (k i : ℕ) → get_or (zeros k) i 0 ≡ 0
zeros_none zero i = refl
zeros_none (suc k) zero = refl
zeros_none (suc k) (suc i) = zeros_none k i
