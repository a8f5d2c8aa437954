-- A walk along lists from index i on: what is left of a definition at i is its step at i and what is left at i + 1.
--     next          the rest of a list is its element at i and the rest at i + 1
--     .._next       a step;  .._done  past the end nothing is left
-- Assumes nothing.
use Rattle.std.specs.Prelude.{ℕ, suc, ◌+◌, ◌*◌, ◌<◌, ◌≤◌, ◌≡◌, Bool, true, false, ◌⊎◌, List, ◌∷◌, length, get_or, drop, ℤ, pos, ◌+ℤ◌, ◌*ℤ◌}
use Rattle.std.proofs.Common.{sym, ◌∙◌, inl, inr, add-one, mul-le-mul, le_of_suc-le-suc, arith, drop_of_length-le, drop-cons}
use Rattle.terms.specs.Load.{Fits, grade}
use Rattle.terms.specs.Order.{cost, Lex}
use Rattle.terms.specs.Limits.{All}
use Rattle.terms.specs.Decides.{Decides}
use Rattle.laws.specs.Decides.{false_true}

pub next {ℓ} : {A : Type ℓ} (l : List A) (i : ℕ) (d : A) → i < length l → drop i l ≡ get_or l i d ∷ drop (i + 1) l
next l i d h = rw add-one (drop-cons l i d h)

-- the greatest product of two numbers, each below a limit
pub product_most : (p q a b : ℕ) → a < suc p → b < suc q → a * b ≤ p * q
product_most p q a b l h = mul-le-mul (le_of_suc-le-suc l) (le_of_suc-le-suc h)

-- ---- the grade

pub grade_next : (ws x : List ℕ) (i : ℕ) → i < length ws → i < length x → grade (drop i ws) (drop i x) ≡ get_or ws i 0 * get_or x i 0 + grade (drop (i + 1) ws) (drop (i + 1) x)
grade_next ws x i p q = rw (next ws i 0 p, next x i 0 q)

pub grade_done : (ws x : List ℕ) (i : ℕ) → length ws ≤ i → grade (drop i ws) (drop i x) ≡ 0
grade_done ws x i p = rw (drop_of_length-le ws p)

-- ---- the cost

pub cost_next : (cs : List ℤ) (x : List ℕ) (i : ℕ) → i < length cs → i < length x → cost (drop i cs) (drop i x) ≡ (pos (get_or x i 0) *ℤ get_or cs i (pos 0)) +ℤ cost (drop (i + 1) cs) (drop (i + 1) x)
cost_next cs x i p q = rw (next cs i (pos 0) p, next x i 0 q)

pub cost_done : (cs : List ℤ) (x : List ℕ) (i : ℕ) → length cs ≤ i → cost (drop i cs) (drop i x) ≡ pos 0
cost_done cs x i p = rw (drop_of_length-le cs p)

-- ---- by counts

pub lex_here : (x y : List ℕ) (i : ℕ) → i < length x → i < length y → get_or x i 0 < get_or y i 0 → Lex (drop i x) (drop i y)
lex_here x y i p q l = rw (next x i 0 p, next y i 0 q) (inl l)

pub lex_past : (x y : List ℕ) (i : ℕ) → i < length x → i < length y → get_or x i 0 ≡ get_or y i 0 → Lex (drop (i + 1) x) (drop (i + 1) y) → Lex (drop i x) (drop i y)
lex_past x y i p q e h = rw (next x i 0 p, next y i 0 q) (inr (e, h))

pub lex_cases : (x y : List ℕ) (i : ℕ) → i < length x → i < length y → Lex (drop i x) (drop i y) → (get_or x i 0 < get_or y i 0) ⊎ ((get_or x i 0 ≡ get_or y i 0) × Lex (drop (i + 1) x) (drop (i + 1) y))
lex_cases x y i p q h = rw (next x i 0 p, next y i 0 q) at h

pub lex_done : (x y : List ℕ) (i : ℕ) → length x ≤ i → Lex (drop i x) (drop i y) → ⊥
lex_done x y i p h = rw (drop_of_length-le x p) at h

-- ---- a loop that tests each element, and stops at the first that is not so: P of each is P of each from i on

module _ {A : Type 0} (P : A → Type 0) (l : List A) (i : ℕ) (d : A) where
  pub all_next : i < length l → All P (drop i l) → P (get_or l i d) × All P (drop (i + 1) l)
  all_next p h = rw (next l i d p) at h

  pub all_past : i < length l → P (get_or l i d) → All P (drop (i + 1) l) → All P (drop i l)
  all_past p a h = rw (next l i d p) (a, h)

  pub all_done : length l ≤ i → All P (drop i l)
  all_done p = rw (drop_of_length-le l p) tt

-- ---- a loop over two lists that never stops early: ok says whether the first i were so

pub record FitsSoFar (h x : List ℕ) (ok : Bool) (i : ℕ) : Type 0 where
  pub onward : ok ≡ true → Fits (drop i h) (drop i x) → Fits h x
  pub back : Fits h x → (ok ≡ true) × Fits (drop i h) (drop i x)

module _ (h x : List ℕ) (i : ℕ) (p : i < length h) (q : i < length x) where
  fits_cases : Fits (drop i h) (drop i x) → (get_or h i 0 ≤ get_or x i 0) × Fits (drop (i + 1) h) (drop (i + 1) x)
  fits_cases w = rw (next h i 0 p, next x i 0 q) at w

  fits_past : get_or h i 0 ≤ get_or x i 0 → Fits (drop (i + 1) h) (drop (i + 1) x) → Fits (drop i h) (drop i x)
  fits_past l w = rw (next h i 0 p, next x i 0 q) (l, w)

  pub fits_on : (ok : Bool) → FitsSoFar h x ok i → get_or h i 0 ≤ get_or x i 0 → FitsSoFar h x ok (i + 1)
  fits_on ok s l = record { onward = λ e w. s.onward e (fits_past l w); back = λ w. ((s.back w).0, (fits_cases (s.back w).1).1) }

  pub fits_off : (ok : Bool) → FitsSoFar h x ok i → get_or x i 0 < get_or h i 0 → FitsSoFar h x false (i + 1)
  fits_off ok s l = record { onward = λ e w. absurd (false_true e); back = λ w. absurd (omega (arith, (fits_cases (s.back w).1).0)) }

pub fits_done : (h x : List ℕ) (ok : Bool) (i : ℕ) → length h ≤ i → length x ≤ i → FitsSoFar h x ok i → Decides (Fits h x) ok
fits_done h x ok i p q s = record {
  holds = λ e. s.onward e (rw (drop_of_length-le h p, drop_of_length-le x q) tt);
  fails = λ e w. false_true (sym e ∙ (s.back w).0);
}
