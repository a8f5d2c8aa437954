-- Laws of the loads on the way of many rounds.
-- Assumes nothing.
use Rattle.std.specs.Prelude.{ℕ, zero, suc, ◌+◌, ◌*◌, ◌-◌, ◌≤◌, ◌<◌, ◌≡◌, refl, List, [], ◌∷◌, length, get_or}
use Rattle.std.proofs.Common.{ap, ap₂, arith, mul-le-mul_right, mul-zero}
use Rattle.std.proofs.Math.Decide.{dec_le}
use Rattle.terms.specs.Load.{Fits}
use Rattle.terms.specs.Swaps.{exchange}
use Rattle.laws.specs.Load.{UpTo}
use Rattle.leap.specs.Rounds.{three, went, top, wents, tops, Rounds}

-- ---- of three loads of one length

pub length_three : (f : ℕ → ℕ → ℕ → ℕ) (h t x : List ℕ) → length h ≡ length x → length t ≡ length x → length (three f h t x) ≡ length x
length_three f [] t x p q = p
length_three f (h ∷ hs) [] x p q = q
length_three f (h ∷ hs) (t ∷ ts) [] p q = refl
length_three f (h ∷ hs) (t ∷ ts) (x ∷ xs) p q = ap suc (length_three f hs ts xs (omega arith) (omega arith))

pub three_at : (f : ℕ → ℕ → ℕ → ℕ) (h t x : List ℕ) (i : ℕ) → length h ≡ length x → length t ≡ length x → i < length x → get_or (three f h t x) i 0 ≡ f (get_or h i 0) (get_or t i 0) (get_or x i 0)
three_at f [] t x i p q l = absurd (omega arith)
three_at f (h ∷ hs) [] x i p q l = absurd (omega arith)
three_at f (h ∷ hs) (t ∷ ts) [] i p q l = absurd (omega arith)
three_at f (h ∷ hs) (t ∷ ts) (x ∷ xs) zero p q l = refl
three_at f (h ∷ hs) (t ∷ ts) (x ∷ xs) (suc i) p q l = three_at f hs ts xs i (omega arith) (omega arith) (omega arith)

-- ---- one kind: its count falls, or it rises

no_times : (c a b : ℕ) → a ≤ b → c * (a - b) ≡ 0
no_times c a b l = let z : a - b ≡ 0 = omega arith in omega (arith, ap (λ (k : ℕ). c * k) z, mul-zero c)

pub went_down : (c h t x : ℕ) → t ≤ h → went c h t x ≡ x - c * (h - t)
went_down c h t x l = omega (arith, no_times c t h l)

pub went_up : (c h t x : ℕ) → h ≤ t → went c h t x ≡ x + c * (t - h)
went_up c h t x l = omega (arith, no_times c h t l)

pub top_level : (c h t x : ℕ) → t ≤ h → top c h t x ≡ x
top_level c h t x l = omega (arith, no_times c t h l)

pub rises : (c h t x : ℕ) → h ≤ t → h ≤ x → h + c * (h - t) ≤ x
rises c h t x l f = omega (arith, no_times c h t l)

-- ---- rounds, by the index

pub rounds_all : (more : ℕ) (h t x : List ℕ) → length h ≡ length x → length t ≡ length x → ((i : ℕ) → i < length x → get_or h i 0 + more * (get_or h i 0 - get_or t i 0) ≤ get_or x i 0) → Rounds more h t x
rounds_all more [] t x p q f = tt
rounds_all more (h ∷ hs) [] x p q f = tt
rounds_all more (h ∷ hs) (t ∷ ts) [] p q f = tt
rounds_all more (h ∷ hs) (t ∷ ts) (x ∷ xs) p q f =
    (f 0 (omega arith), rounds_all more hs ts xs (omega arith) (omega arith) (λ i l. f (suc i) (omega arith)))

pub rounds_here : (more : ℕ) (h t x : List ℕ) (i : ℕ) → length h ≡ length x → length t ≡ length x → i < length x → Rounds more h t x → get_or h i 0 + more * (get_or h i 0 - get_or t i 0) ≤ get_or x i 0
rounds_here more [] t x i p q l r = absurd (omega arith)
rounds_here more (h ∷ hs) [] x i p q l r = absurd (omega arith)
rounds_here more (h ∷ hs) (t ∷ ts) [] i p q l r = absurd (omega arith)
rounds_here more (h ∷ hs) (t ∷ ts) (x ∷ xs) zero p q l r = r.0
rounds_here more (h ∷ hs) (t ∷ ts) (x ∷ xs) (suc i) p q l r = rounds_here more hs ts xs i (omega arith) (omega arith) (omega arith) r.1

-- fewer rounds need less
pub rounds_fewer : (more m : ℕ) (h t x : List ℕ) → m ≤ more → Rounds more h t x → Rounds m h t x
rounds_fewer more m [] t x l r = tt
rounds_fewer more m (h ∷ hs) [] x l r = tt
rounds_fewer more m (h ∷ hs) (t ∷ ts) [] l r = tt
rounds_fewer more m (h ∷ hs) (t ∷ ts) (x ∷ xs) l r = (omega (arith, mul-le-mul_right (h - t) l, r.0), rounds_fewer more m hs ts xs l r.1)

-- ---- the loads on the way

pub wents_zero : (h t x : List ℕ) → length h ≡ length x → length t ≡ length x → wents 0 h t x ≡ x
wents_zero [] t [] p q = refl
wents_zero [] t (x ∷ xs) p q = absurd (omega arith)
wents_zero (h ∷ hs) [] [] p q = absurd (omega arith)
wents_zero (h ∷ hs) [] (x ∷ xs) p q = absurd (omega arith)
wents_zero (h ∷ hs) (t ∷ ts) [] p q = absurd (omega arith)
wents_zero (h ∷ hs) (t ∷ ts) (x ∷ xs) p q = ap₂ ◌∷◌ (omega arith) (wents_zero hs ts xs (omega arith) (omega arith))

pub tops_zero : (h t x : List ℕ) → length h ≡ length x → length t ≡ length x → tops 0 h t x ≡ x
tops_zero [] t [] p q = refl
tops_zero [] t (x ∷ xs) p q = absurd (omega arith)
tops_zero (h ∷ hs) [] [] p q = absurd (omega arith)
tops_zero (h ∷ hs) [] (x ∷ xs) p q = absurd (omega arith)
tops_zero (h ∷ hs) (t ∷ ts) [] p q = absurd (omega arith)
tops_zero (h ∷ hs) (t ∷ ts) (x ∷ xs) p q = ap₂ ◌∷◌ (omega arith) (tops_zero hs ts xs (omega arith) (omega arith))

module _ (more c : ℕ) (l : c ≤ more) where
  went_fits : (h t x : ℕ) → h + more * (h - t) ≤ x → h ≤ went c h t x
  went_fits h t x f = omega (arith, mul-le-mul_right (h - t) l)

  went_next : (h t x : ℕ) → h + more * (h - t) ≤ x → went c h t x - h + t ≡ went (suc c) h t x
  went_next h t x f = omega (arith, mul-le-mul_right (h - t) l)

  went_within : (h t x : ℕ) → went c h t x ≤ top more h t x
  went_within h t x = omega (arith, mul-le-mul_right (t - h) l)

  -- the head fits in each, a round leads to the next, and each is within the greatest
  pub wents_fit : (h t x : List ℕ) → length h ≡ length x → length t ≡ length x → Rounds more h t x → Fits h (wents c h t x)
  wents_fit [] t x p q r = tt
  wents_fit (h ∷ hs) [] [] p q r = absurd (omega arith)
  wents_fit (h ∷ hs) [] (x ∷ xs) p q r = absurd (omega arith)
  wents_fit (h ∷ hs) (t ∷ ts) [] p q r = absurd (omega arith)
  wents_fit (h ∷ hs) (t ∷ ts) (x ∷ xs) p q r = (went_fits h t x r.0, wents_fit hs ts xs (omega arith) (omega arith) r.1)

  pub wents_next : (h t x : List ℕ) → length h ≡ length x → length t ≡ length x → Rounds more h t x → exchange h t (wents c h t x) ≡ wents (suc c) h t x
  wents_next [] t x p q r = refl
  wents_next (h ∷ hs) [] [] p q r = absurd (omega arith)
  wents_next (h ∷ hs) [] (x ∷ xs) p q r = absurd (omega arith)
  wents_next (h ∷ hs) (t ∷ ts) [] p q r = absurd (omega arith)
  wents_next (h ∷ hs) (t ∷ ts) (x ∷ xs) p q r = ap₂ ◌∷◌ (went_next h t x r.0) (wents_next hs ts xs (omega arith) (omega arith) r.1)

  pub wents_within : (h t x : List ℕ) → Fits (wents c h t x) (tops more h t x)
  wents_within [] t x = tt
  wents_within (h ∷ hs) [] x = tt
  wents_within (h ∷ hs) (t ∷ ts) [] = tt
  wents_within (h ∷ hs) (t ∷ ts) (x ∷ xs) = (went_within h t x, wents_within hs ts xs)

-- the greatest counts are those of the first load or of the last
pub tops_small : (most c : ℕ) (h t x : List ℕ) → UpTo most x → UpTo most (wents c h t x) → UpTo most (tops c h t x)
tops_small most c [] t x u w = tt
tops_small most c (h ∷ hs) [] x u w = tt
tops_small most c (h ∷ hs) (t ∷ ts) [] u w = tt
tops_small most c (h ∷ hs) (t ∷ ts) (x ∷ xs) u w = (one h t x u.0 w.0, tops_small most c hs ts xs u.1 w.1)
  where
    one : (h t x : ℕ) → x ≤ most → went c h t x ≤ most → top c h t x ≤ most
    one h t x a b = either (dec_le h t)
      where
        either : Dec (h ≤ t) → top c h t x ≤ most
        either (yes l) = omega (arith, went_up c h t x l)
        either (no n) = omega (arith, top_level c h t x (omega arith))
