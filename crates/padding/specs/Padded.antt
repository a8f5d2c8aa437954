-- Padding changes nothing by the cost: the finished table of a kit of n kinds, widened, is that of the kit of 12 kinds. By the
-- weight, proofs/Padded.antt.
--     cost_wide      from the finished table of n kinds to that of 12
--     cost_narrow    and back, where its rows are widened ones
--     rows_wide      as all its rows are
-- Assumes nothing.
use Rattle.std.specs.Prelude.{ℕ, zero, suc, ◌-◌, ◌≡◌, refl, List, [], ◌∷◌, ◌++◌, map, length, take, replicate, ℤ, pos}
use Rattle.std.proofs.Common.{sym, ap, ap₂, subst, ◌∙◌, inl, inr, arith, take_at}
use mathlib.Core.List.Memᴰ
use Rattle.std.proofs.lemmas.List.{append_cancel_right}
use Rattle.terms.specs.Load.{zeros, grade}
use Rattle.terms.specs.Limits.{All, SizeFine, CostFine, most_kinds}
use Rattle.terms.specs.Swaps.{◌∈◌, Swap, Reaches}
use Rattle.terms.specs.Table.{FirstReached, Row, Above, Sorted, Sorted.none, Sorted.next, Finished}
use Rattle.laws.specs.Load.{all_map, all_members}
use Rattle.laws.specs.Flat.{Sides}
use Rattle.laws.specs.Laid.{row_same}
use Rattle.bridge.specs.Carry.{mem_map, mem_unmap}
use Rattle.bridge.specs.Rows.{IsSwap, IsSheet}
use Rattle.bridge.specs.Regular.{IsKit, Regular, reaches_regular}
use Rattle.padding.specs.Widen.{FineKit, widen, widen_swap, widen_row, widen_sizes, widen_costs}
use Rattle.padding.specs.Beside.{lex_beside, lex_front}
use Rattle.padding.specs.Kinds.{sizes_long}
use Rattle.padding.specs.Reach.{HeadWide, reg, none_further, reach_narrow, first_wide, first_narrow, grade_wide, length_wide, head_wide, head_back, head_narrow}

all_beside : {A : Type 0} (P : A → Type 0) (l : List A) (a : A) (k : ℕ) → All P l → P a → All P (l ++ replicate k a)
all_beside P [] a zero u p = tt
all_beside P [] a (suc k) u p = (p, all_beside P [] a k tt p)
all_beside P (x ∷ xs) a k u p = (u.0, all_beside P xs a k u.1 p)

sorted_map : {A B : Type 0} {P : A → A → Type 0} {Q : B → B → Type 0} (f : A → B) (l : List A) → ((a b : A) → a ∈ l → b ∈ l → P a b → Q (f a) (f b)) → Sorted P l → Sorted Q (map f l)
sorted_map f [] on s = none
sorted_map {Q = Q} f (a ∷ l) on (next p s) =
    next
    (λ b m. let r = mem_unmap f l m in subst (Q (f a)) r.2 (on a r.0 (Memᴰ.head refl) (Memᴰ.tail r.1) (p r.0 r.1)))
    (sorted_map f l (λ b c m k. on b c (Memᴰ.tail m) (Memᴰ.tail k)) s)

sorted_unmap : {A B : Type 0} {P : A → A → Type 0} {Q : B → B → Type 0} (f : A → B) (l : List A) → ((a b : A) → a ∈ l → b ∈ l → Q (f a) (f b) → P a b) → Sorted Q (map f l) → Sorted P l
sorted_unmap f [] on s = none
sorted_unmap f (a ∷ l) on (next p s) =
    next (λ b m. on a b (Memᴰ.head refl) (Memᴰ.tail m) (p (f b) (mem_map f l m))) (sorted_unmap f l (λ b c m k. on b c (Memᴰ.tail m) (Memᴰ.tail k)) s)

-- a widened row's first n counts
abbrev pub narrow_row : ℕ → Row → Row
narrow_row n a = record { head = take n a.head; tail = take n a.tail }

pub map_same : {A : Type 0} (f : A → A) (l : List A) → ((a : A) → a ∈ l → f a ≡ a) → map f l ≡ l
map_same f [] on = refl
map_same f (a ∷ l) on = ap₂ ◌∷◌ (on a (Memᴰ.head refl)) (map_same f l (λ b m. on b (Memᴰ.tail m)))

-- a widened load of n counts is widened from its first n
back_again : (n : ℕ) (x y : List ℕ) → length x ≡ n → widen n x ≡ y → widen n (take n y) ≡ y
back_again n x y e d = ap (λ (l : List ℕ). widen n (take n l)) (sym d) ∙ ap (widen n) (take_at x (zeros (most_kinds - n)) n e) ∙ d

module _ {n : ℕ} {sizes : List ℕ} {costs : List ℤ} {sheet : List Swap} (fine : FineKit n sizes costs) (swaps : IsSheet n sizes sheet) (bound : ℕ) where
  -- ---- the widened kit and sheet

  pub length_sizes : length (widen_sizes n sizes) ≡ most_kinds
  length_sizes = sizes_long n sizes fine.sized fine.few

  pub wide_sizes_fine : All SizeFine (widen_sizes n sizes)
  wide_sizes_fine = all_beside SizeFine sizes 1 (most_kinds - n) fine.sizes_fine (omega arith, omega arith)

  pub wide_costs_fine : All CostFine (widen_costs n costs)
  wide_costs_fine = all_beside CostFine costs (pos 0) (most_kinds - n) fine.costs_fine (omega arith)

  pub wide_kit : IsKit most_kinds (widen_sizes n sizes)
  wide_kit = record { of_sizes = length_sizes; from_one = all_map (λ s h. h.0) (widen_sizes n sizes) wide_sizes_fine }

  pub wide_swaps : IsSheet most_kinds (widen_sizes n sizes) (map (widen_swap n) sheet)
  wide_swaps s m =
      let r = mem_unmap (widen_swap n) sheet m in
      let w = swaps r.0 r.1 in
      subst (IsSwap most_kinds (widen_sizes n sizes)) r.2 record {
        of_left = long r.0.left w.of_left;
        of_right = long r.0.right w.of_right;
        even = level r.0.left w.of_left ∙ w.even ∙ sym (level r.0.right w.of_right);
      }
    where
      long : (x : List ℕ) → length x ≡ n → length (widen n x) ≡ most_kinds
      long = length_wide n fine.few

      level : (x : List ℕ) → length x ≡ n → grade (widen_sizes n sizes) (widen n x) ≡ grade sizes x
      level x = grade_wide n sizes x fine.sized

  -- ---- rows

  abbrev pub Here : List Row → Type 0
  Here = Finished n bound sizes costs (Reaches sheet)

  -- by the cost, and by the weight
  abbrev pub Wide : List ℤ → List Row → Type 0
  Wide cs = Finished most_kinds bound (widen_sizes n sizes) cs (Reaches (map (widen_swap n) sheet))

  above_wide : (a b : Row) → length a.head ≡ n → length b.head ≡ n → Above sizes a b → Above (widen_sizes n sizes) (widen_row n a) (widen_row n b)
  above_wide a b d e (inl l) = inl (rw (grade_wide n sizes a.head fine.sized d, grade_wide n sizes b.head fine.sized e) l)
  above_wide a b d e (inr p) =
      inr (grade_wide n sizes a.head fine.sized d ∙ p.0 ∙ sym (grade_wide n sizes b.head fine.sized e), lex_beside a.head b.head (zeros (most_kinds - n)) p.1)

  above_narrow : (a b : Row) → length a.head ≡ n → length b.head ≡ n → Above (widen_sizes n sizes) (widen_row n a) (widen_row n b) → Above sizes a b
  above_narrow a b d e (inl l) = inl (rw (grade_wide n sizes a.head fine.sized d, grade_wide n sizes b.head fine.sized e) at l)
  above_narrow a b d e (inr p) =
      inr (sym (grade_wide n sizes a.head fine.sized d) ∙ p.0 ∙ grade_wide n sizes b.head fine.sized e, lex_front a.head b.head (zeros (most_kinds - n)) (d ∙ sym e) p.1)

  -- ---- by the cost

  pub cost_wide : {T : List Row} → Here T → Wide (widen_costs n costs) (map (widen_row n) T)
  cost_wide {T} f = record {
    heads = λ a m. let r = mem_unmap (widen_row n) T m in subst (λ (b : Row). HeadWide fine swaps bound b.head) r.2 (head_wide fine swaps bound (f.heads r.0 r.1));
    tails = λ a m.
        let r = mem_unmap (widen_row n) T m in
        subst (λ (b : Row). FirstReached (widen_costs n costs) (Reaches (map (widen_swap n) sheet)) b.head b.tail) r.2 (first_wide fine swaps (zeros (most_kinds - n)) (f.heads r.0 r.1).counts (none_further n) (f.tails r.0 r.1));
    each = λ h w.
        let g = head_narrow fine swaps bound w in
        let r = f.each g.0 g.1 in
        (widen_row n r.0, mem_map (widen_row n) T r.1, ap (widen n) r.2 ∙ g.2);
    order = sorted_map (widen_row n) T (λ a b m k. above_wide a b (f.heads a m).counts (f.heads b k).counts) f.order;
  }

  pub cost_narrow : (T : List Row) → ((a : Row) → a ∈ T → length a.head ≡ n) → Wide (widen_costs n costs) (map (widen_row n) T) → Here T
  cost_narrow T long f = record {
    heads = λ a m. head_back fine swaps bound (long a m) (f.heads (widen_row n a) (mem_map (widen_row n) T m));
    tails = λ a m. first_narrow fine swaps (zeros (most_kinds - n)) (long a m) (none_further n) (f.tails (widen_row n a) (mem_map (widen_row n) T m));
    each = λ h w.
        let r = f.each (widen n h) (head_wide fine swaps bound w) in
        let a = mem_unmap (widen_row n) T r.1 in
        (a.0, a.1, append_cancel_right a.0.head h (zeros (most_kinds - n)) (ap (λ (b : Row). b.head) a.2 ∙ r.2));
    order = sorted_unmap (widen_row n) T (λ a b m k. above_narrow a b (long a m) (long b k)) f.order;
  }

  -- each row of the wide kit's finished table is a widened one
  pub rows_wide : (U : List Row) → Wide (widen_costs n costs) U → (a : Row) → a ∈ U → widen_row n (narrow_row n a) ≡ a
  rows_wide U f a m =
      let g = head_narrow fine swaps bound (f.heads a m) in
      let e : length g.0 ≡ n = g.1.counts in
      let r : Reaches (map (widen_swap n) sheet) (widen n g.0) a.tail = rw g.2 (f.tails a m).reached in
      let t = reach_narrow fine swaps {x = g.0} (zeros (most_kinds - n)) e (none_further n) r in
      row_same (back_again n g.0 a.head e g.2) (back_again n t.0 a.tail ((reg fine swaps).keeps e t.1) t.2)

  -- ---- by the weight

  pub wide_regular : Regular most_kinds (widen_sizes n sizes) (Reaches (map (widen_swap n) sheet))
  wide_regular = reaches_regular (widen_costs n costs) wide_kit (map (widen_swap n) sheet) wide_swaps

  pub finished_sides : (T : List Row) → Finished n bound sizes costs (Reaches sheet) T → All (Sides n) T
  finished_sides T f = all_members T λ a m. let e : length a.head ≡ n = (f.heads a m).counts in record { of_head = e; of_tail = (reg fine swaps).keeps e (f.tails a m).reached }
