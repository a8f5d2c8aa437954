-- Items by their number: k items, numbered from 0 on.
--     numbered_long, item_at          how many they are, and which stands where
--     numbered_in, in_numbered        what stands among them, both ways
--     numbered_same                   the same items, the same list
--     numbered_map, numbered_on       each item read as another, or numbered from 1 on
--     numbered_more, numbered_set     one item more, one item changed
-- Assumes nothing.
use Rattle.std.specs.Prelude.{ℕ, zero, suc, ◌+◌, ◌≤◌, ◌<◌, ◌≡◌, refl, List, [], ◌∷◌, ◌++◌, map, length, get_or, set}
use Rattle.std.proofs.Common.{ap, ap₂, subst, ◌∙◌, ⊎_elim, arith, zero-add, add-one}
use mathlib.Core.List.Memᴰ
use Rattle.terms.specs.Swaps.{◌∈◌}
use Rattle.terms.specs.Flat.{numbered}

pub numbered_long : {A : Type 0} (item : ℕ → A) (from k : ℕ) → length (numbered item from k) ≡ k
numbered_long item from zero = refl
numbered_long item from (suc k) = ap suc (numbered_long item (suc from) k)

module _ {A : Type 0} (item : ℕ → A) where
  -- ---- which stands where

  at_from : (d : A) (from k i : ℕ) → i < k → get_or (numbered item from k) i d ≡ item (from + i)
  at_from d from zero i l = absurd (omega arith)
  at_from d from (suc k) zero l = ap item (omega arith)
  at_from d from (suc k) (suc i) l = at_from d (suc from) k i (omega arith) ∙ ap item (omega arith)

  pub item_at : (d : A) (k i : ℕ) → i < k → get_or (numbered item 0 k) i d ≡ item i
  item_at d k i l = at_from d 0 k i l ∙ ap item (zero-add i)

  -- ---- what stands among them

  from_in : (from k i : ℕ) → i < k → item (from + i) ∈ numbered item from k
  from_in from zero i l = absurd (omega arith)
  from_in from (suc k) zero l = let e : from + 0 ≡ from = omega arith in Memᴰ.head (ap item e)
  from_in from (suc k) (suc i) l =
      Memᴰ.tail (subst (λ (j : ℕ). item j ∈ numbered item (suc from) k) (omega arith) (from_in (suc from) k i (omega arith)))

  pub numbered_in : (k i : ℕ) → i < k → item i ∈ numbered item 0 k
  numbered_in k i l = subst (λ (j : ℕ). item j ∈ numbered item 0 k) (zero-add i) (from_in 0 k i l)

  in_from : (from k : ℕ) {a : A} → a ∈ numbered item from k → (i : ℕ) × (i < k) × (a ≡ item (from + i))
  in_from from zero m = absurd (Memᴰ.not-nil m)
  in_from from (suc k) {a} m =
      ⊎_elim (λ (e : a ≡ item from). (0, omega arith, e ∙ ap item (omega arith)))
      (λ (w : a ∈ numbered item (suc from) k). let t = in_from (suc from) k w in (suc t.0, omega arith, t.2 ∙ ap item (omega arith)))
      (Memᴰ.cases_cons m)

  pub in_numbered : (k : ℕ) {a : A} → a ∈ numbered item 0 k → (i : ℕ) × (i < k) × (a ≡ item i)
  in_numbered k m = let t = in_from 0 k m in (t.0, t.1, t.2 ∙ ap item (zero-add t.0))

  -- ---- one more

  more_from : (from k : ℕ) → numbered item from (suc k) ≡ numbered item from k ++ (item (from + k) ∷ [])
  more_from from zero = ap (λ (i : ℕ). item i ∷ []) (omega arith)
  more_from from (suc k) =
      ap (λ (l : List A). item from ∷ l) (more_from (suc from) k ∙ ap (λ (i : ℕ). numbered item (suc from) k ++ (item i ∷ [])) (omega arith))

  pub numbered_more : (k : ℕ) → numbered item 0 (k + 1) ≡ numbered item 0 k ++ (item k ∷ [])
  numbered_more k =
      ap (numbered item 0) (add-one k) ∙ more_from 0 k ∙ ap (λ (i : ℕ). numbered item 0 k ++ (item i ∷ [])) (zero-add k)

-- ---- the same items

same_from : {A : Type 0} (f g : ℕ → A) (from k : ℕ) → ((i : ℕ) → from ≤ i → i < from + k → f i ≡ g i) → numbered f from k ≡ numbered g from k
same_from f g from zero e = refl
same_from f g from (suc k) e =
    ap₂ ◌∷◌ (e from (omega arith) (omega arith)) (same_from f g (suc from) k (λ i l h. e i (omega arith) (omega arith)))

pub numbered_same : {A : Type 0} (f g : ℕ → A) (k : ℕ) → ((i : ℕ) → i < k → f i ≡ g i) → numbered f 0 k ≡ numbered g 0 k
numbered_same f g k e = same_from f g 0 k (λ i l h. e i (omega arith))

-- ---- each item read as another

pub numbered_map : {A B : Type 0} (g : A → B) (f : ℕ → A) (from k : ℕ) → map g (numbered f from k) ≡ numbered (λ i. g (f i)) from k
numbered_map g f from zero = refl
numbered_map {B = B} g f from (suc k) = ap (λ (l : List B). g (f from) ∷ l) (numbered_map g f (suc from) k)

pub numbered_on : {A : Type 0} (f : ℕ → A) (from k : ℕ) → numbered f (suc from) k ≡ numbered (λ i. f (suc i)) from k
numbered_on f from zero = refl
numbered_on {A} f from (suc k) = ap (λ (l : List A). f (suc from) ∷ l) (numbered_on f (suc from) k)

-- ---- one item changed

set_from : {A : Type 0} (f g : ℕ → A) (from k r : ℕ) → r < k → ((i : ℕ) → from ≤ i → i < from + k → (i ≡ from + r → ⊥) → g i ≡ f i) → numbered g from k ≡ set (numbered f from k) r (g (from + r))
set_from f g from zero r l e = absurd (omega arith)
set_from f g from (suc k) zero l e =
    ap₂ ◌∷◌ (ap g (omega arith)) (same_from g f (suc from) k (λ i q h. e i (omega arith) (omega arith) (λ z. omega arith)))
set_from f g from (suc k) (suc r) l e =
    ap₂ ◌∷◌ (e from (omega arith) (omega arith) (λ z. omega arith))
    (set_from f g (suc from) k r (omega arith) (λ i q h n. e i (omega arith) (omega arith) (λ z. n (omega arith))) ∙ ap (λ (i : ℕ). set (numbered f (suc from) k) r (g i)) (omega arith))

pub numbered_set : {A : Type 0} (f g : ℕ → A) (k r : ℕ) → r < k → ((i : ℕ) → i < k → (i ≡ r → ⊥) → g i ≡ f i) → numbered g 0 k ≡ set (numbered f 0 k) r (g r)
numbered_set f g k r l e =
    set_from f g 0 k r l (λ i q h n. e i (omega arith) (λ z. n (omega arith)))
    ∙ ap (λ (i : ℕ). set (numbered f 0 k) r (g i)) (zero-add r)
