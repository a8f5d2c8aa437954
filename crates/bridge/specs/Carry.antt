-- What a list keeps when each of its elements is read as another: members, order, numbers.
-- Assumes nothing.
use Rattle.std.specs.Prelude.{◌≡◌}
use Rattle.std.proofs.Math.Path.{refl, ap₂}
use Rattle.std.proofs.Common.{sym, ⊎_elim}
use mathlib.Core.List.Memᴰ
use mathlib.Core.List.{List, [], ◌∷◌, map}
use Rattle.terms.specs.Swaps.{◌∈◌}
use Rattle.terms.specs.Table.{Sorted, Sorted.none, Sorted.next}
use Rattle.theory.specs.Unique.{Sorted as InOrder, Sorted.none as done, Sorted.next as more}

-- the order of lists and the theory's are one
pub in_order : {A : Type 0} {P : A → A → Type 0} {l : List A} → Sorted P l → InOrder P l
in_order none = done
in_order (next p s) = more p (in_order s)

module _ {A B : Type 0} (f : A → B) where
  pub mem_map : {a : A} (l : List A) → a ∈ l → f a ∈ map f l
  mem_map [] m = elim m [ ]
  mem_map (b ∷ l) (Memᴰ.head e) = Memᴰ.head (λ i. f (e i))
  mem_map (b ∷ l) (Memᴰ.tail m) = Memᴰ.tail (mem_map l m)

  pub mem_unmap : {b : B} (l : List A) → b ∈ map f l → (a : A) × (a ∈ l) × (f a ≡ b)
  mem_unmap [] m = absurd (Memᴰ.not-nil m)
  mem_unmap {b} (c ∷ l) m =
      ⊎_elim (λ (e : b ≡ f c). (c, Memᴰ.head refl, sym e)) (λ (k : b ∈ map f l). let r = mem_unmap l k in (r.0, Memᴰ.tail r.1, r.2)) (Memᴰ.cases_cons m)

  -- rows stand in order where what they are read as does
  pub sorted_down : (P : B → B → Type 0) {l : List A} → InOrder (λ a b. P (f a) (f b)) l → Sorted P (map f l)
  sorted_down P done = none
  sorted_down P (more {a = a} {l = l} p s) =
      next (λ b m. let r = mem_unmap l m in rw r.2 at (p r.0 r.1)) (sorted_down P s)

  pub sorted_up : (P : B → B → Type 0) (l : List A) → Sorted P (map f l) → InOrder (λ a b. P (f a) (f b)) l
  sorted_up P [] s = done
  sorted_up P (a ∷ l) (next p s) = more (λ b m. p (f b) (mem_map l m)) (sorted_up P l s)

  -- a list all of whose members are so is read from a list, where each such element is
  module _ (Ok : B → Type 0) (g : (b : B) → Ok b → A) where
    unfoldable pub raised : (l : List B) → ((b : B) → b ∈ l → Ok b) → List A
    raised [] w = []
    raised (b ∷ l) w = g b (w b (Memᴰ.head refl)) ∷ raised l (λ c m. w c (Memᴰ.tail m))

    pub raised_down : ((b : B) (w : Ok b) → f (g b w) ≡ b) → (l : List B) (w : (b : B) → b ∈ l → Ok b) → map f (raised l w) ≡ l
    unfolding raised
    raised_down back [] w = refl
    raised_down back (b ∷ l) w = ap₂ ◌∷◌ (back b (w b (Memᴰ.head refl))) (raised_down back l (λ c m. w c (Memᴰ.tail m)))
