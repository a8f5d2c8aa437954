-- A grade ended: the new rows, with settled tails and in order, stand under the rows below.
-- Assumes nothing.
use Rattle.std.specs.Prelude.{ℕ, zero, suc, ◌+◌, ◌<◌, ◌≡◌, refl, Bool, true, false, List, [], ◌∷◌, ◌++◌, map, length, get_or, set, take, drop, IsPermutation}
use Rattle.std.specs.List.{swap, IsDistinct}
use Rattle.std.specs.List.Sorted.{apply_swaps}
use Rattle.std.specs.Bool.{one_answer}
use Rattle.std.specs.Str.{bytes_eq}
use Rattle.std.proofs.Common.{ap, ap₂, sym, subst, ◌∙◌, inl, inr, ⊎_elim, arith, length-append, get_or-append-add}
use Rattle.std.proofs.lemmas.List.{map-append, get_or-map as map_at, map-set, length-map, take_at, drop_at, take-append-drop, get_or_append_left}
use Rattle.std.proofs.Math.ListN.{get_or-map}
use Rattle.std.proofs.lemmas.List.Sorted.{IsPermutation-sym, IsPermutation-map, All-permutation}
use Rattle.std.proofs.lemmas.Map.Keys.{apart_from_distinct, IsDistinct-from_apart, IsDistinct-IsPermutation}
use Rattle.std.proofs.lemmas.Slice.Eq.{bytes_eq-Decides}
use mathlib.Core.List.Memᴰ
use Rattle.terms.specs.Load.{grade}
use Rattle.terms.specs.Order.{Lex}
use Rattle.terms.specs.Swaps.{◌∈◌, Swap}
use Rattle.terms.specs.Table.{Row}
use Rattle.laws.specs.Decides.{false_true}
use Rattle.laws.specs.Order.{Which, Which.first, Which.equal, Which.second, lex_compare}
use Rattle.theory.specs.Kit.{Kit}
use Rattle.theory.specs.Rows.{Row as RowOf}
use Rattle.theory.specs.Unique.{Sorted, Sorted.none, Sorted.next, sorted_append}
use Rattle.theory.specs.Finished.{Above}
use Rattle.theory.specs.Index.{at_mem, mem_at}
use Rattle.theory.specs.Tails.{retail_grade, retail_at, retail_long}
use Rattle.rack.specs.Rows.{head_at, SortedFrom}
use Rattle.pairs.specs.Pairs.{PairList}
use Rattle.pairs.specs.declared.Pair.{Pair}
use Rattle.bridge.specs.Instance.{Load, load_path}
use Rattle.bridge.specs.Rows.{plain, plain_table}
use Rattle.bridge.specs.Tables.{ByCounts}
use Rattle.growth.specs.Setting.{no_row, KitOf, RelOf, alike_of, head_is}
use Rattle.growth.specs.Grade.{SwapsJoined, PairsJoined}
use Rattle.growth.specs.End.{grade_end}
use Rattle.growth.specs.State.{AtGrade, Within, TailsDone}

-- ---- order by numbers

sorted_at : {A : Type 0} (P : A → A → Type 0) (d : A) {l : List A} → Sorted P l → (i j : ℕ) → i < j → j < length l → P (get_or l i d) (get_or l j d)
sorted_at P d none i j a b = absurd (omega arith)
sorted_at P d (next p s) i zero a b = absurd (omega arith)
sorted_at P d (next {l = l} p s) zero (suc j) a b = p (get_or l j d) (at_mem d l j (omega arith))
sorted_at P d (next p s) (suc i) (suc j) a b = sorted_at P d s i j (omega arith) (omega arith)

at_sorted : {A : Type 0} (P : A → A → Type 0) (d : A) (l : List A) → ((i j : ℕ) → i < j → j < length l → P (get_or l i d) (get_or l j d)) → Sorted P l
at_sorted P d [] h = none
at_sorted P d (a ∷ l) h =
    next {l = l} (λ b m. let r = mem_at d m in subst (P a) r.2 (h 0 (suc r.0) (omega arith) (omega (arith, r.1))))
    (at_sorted P d l (λ i j x y. h (suc i) (suc j) (omega arith) (omega arith)))

-- ---- rearranged rows

module _ {A B : Type 0} (f : A → B) where
  map_swap : (l : List A) (i j : ℕ) → map f (swap l i j) ≡ swap (map f l) i j
  map_swap [] i j = refl
  map_swap (d ∷ l) i j =
      map-set f (set (d ∷ l) i (get_or (d ∷ l) j d)) j (get_or (d ∷ l) i d)
      ∙ ap₂ (λ (k : List B) (b : B). set k j b) (map-set f (d ∷ l) i (get_or (d ∷ l) j d) ∙ ap (set (f d ∷ map f l) i) (sym (get_or-map f (d ∷ l) j d))) (sym (get_or-map f (d ∷ l) i d))

  map_swaps : (l : List A) (moves : List (ℕ × ℕ)) → map f (apply_swaps l moves) ≡ apply_swaps (map f l) moves
  map_swaps l [] = refl
  map_swaps l (m ∷ moves) = map_swap (apply_swaps l moves) m.0 m.1 ∙ ap (λ (k : List B). swap k m.0 m.1) (map_swaps l moves)

  -- a rearrangement of what the elements are read as is one of the elements
  unmapped : (l : List A) (k : List B) → IsPermutation (map f l) k → (m : List A) × (map f m ≡ k) × IsPermutation l m
  unmapped l k p =
      (apply_swaps l p.moves, map_swaps l p.moves ∙ sym p.is, record { moves = p.moves; below = rw (length-map l f) at p.below; is = refl })

permuted_in : {A : Type 0} (l k : List A) → IsPermutation l k → (a : A) → a ∈ k → a ∈ l
permuted_in l k p a m =
    let r = mem_at a m in
    subst (λ b. b ∈ l) r.2 (All-permutation (λ b. b ∈ l) l k p (λ i d h. at_mem d l i h) r.0 a r.1)

same_either_way : (x y : List ℕ) → bytes_eq x y ≡ bytes_eq y x
same_either_way x y =
    one_answer (bytes_eq x y) (bytes_eq y x) (bytes_eq-Decides x y) (λ e. sym ((bytes_eq-Decides y x).0 e), λ e. (bytes_eq-Decides y x).1 (sym e))

differ : (x y : List ℕ) → ¬ (x ≡ y) → bytes_eq x y ≡ false
differ x y n = go (bytes_eq x y) refl
  where
    go : (t : Bool) → bytes_eq x y ≡ t → t ≡ false
    go true e = absurd (n ((bytes_eq-Decides x y).0 e))
    go false e = refl

abbrev head_of : RowOf (Load 12) → List ℕ
head_of a = a.head.0

-- heads that differ still do
still_apart : (l k : List (RowOf (Load 12))) → IsPermutation l k → ((i j : ℕ) → i < j → j < length l → ¬ (head_of (get_or l i no_row) ≡ head_of (get_or l j no_row)))
    → (i j : ℕ) → i < j → j < length k → ¬ (head_of (get_or k i no_row) ≡ head_of (get_or k j no_row))
still_apart l k p h i j a b e =
    false_true (sym (apart_from_distinct bytes_eq (map head_of k) i j (head_of no_row) now a (rw (length-map k head_of) b)) ∙ (bytes_eq-Decides _ _).1 (get_or-map head_of k i no_row ∙ e ∙ sym (get_or-map head_of k j no_row)))
  where
    at : (i : ℕ) (d : List ℕ) → i < length l → get_or (map head_of l) i d ≡ head_of (get_or l i no_row)
    at i d q = map_at head_of l i no_row d q

    was : IsDistinct bytes_eq (map head_of l)
    was = IsDistinct-from_apart bytes_eq (map head_of l) λ i j d q r.
        let r' : j < length l = rw (length-map l head_of) at r in
        differ _ _ (λ w. h i j q r' (sym (at i d (omega arith)) ∙ w ∙ at j d r'))

    now : IsDistinct bytes_eq (map head_of k)
    now = IsDistinct-IsPermutation bytes_eq same_either_way (map head_of l) (map head_of k) (IsPermutation-map head_of l k p) was

module _ {weights : List ℕ} {sheet : List Swap} {stamps : List ℕ} {g : ℕ} {T : List Row} (w : Within weights sheet stamps g T) (settled : List Row) (t : TailsDone w settled) (after : List Row) (base : ℕ) (low-long : length w.low ≡ base) (sorted : SortedFrom base settled after) where
  abbrev K : Kit
  K = KitOf weights w.working.setting

  abbrev R : Load 12 → Load 12 → Type 0
  R = RelOf weights w.working.setting

  parts : settled ≡ plain_table w.low ++ plain_table t.now_rows
  parts = sym t.is ∙ map-append plain w.low t.now_rows

  low_kept : take base after ≡ plain_table w.low
  low_kept = sorted.kept ∙ ap (take base) parts ∙ take_at (plain_table w.low) (plain_table t.now_rows) base (length-map w.low plain ∙ low-long)

  new_are : drop base settled ≡ plain_table t.now_rows
  new_are = ap (drop base) parts ∙ drop_at (plain_table w.low) (plain_table t.now_rows) base (length-map w.low plain ∙ low-long)

  -- the new rows, in the order in which they stand now
  sorted_rows : (rows : List (RowOf (Load 12))) × (plain_table rows ≡ drop base after) × IsPermutation t.now_rows rows
  sorted_rows = unmapped plain t.now_rows (drop base after) (subst (λ (l : List Row). IsPermutation l (drop base after)) new_are sorted.same)

  abbrev N : List (RowOf (Load 12))
  N = sorted_rows.0

  abbrev U : List (RowOf (Load 12))
  U = w.low ++ N

  now_is : plain_table U ≡ after
  now_is = map-append plain w.low N ∙ ap (λ l. l ++ plain_table N) (sym low_kept) ∙ ap (λ l. take base after ++ l) sorted_rows.1 ∙ take-append-drop base after

  to_old : (a : RowOf (Load 12)) → a ∈ U → a ∈ w.low ++ t.now_rows
  to_old a m = ⊎_elim (λ (l : a ∈ w.low). Memᴰ.append_left t.now_rows l) (λ (n : a ∈ N). Memᴰ.append_right w.low (permuted_in t.now_rows N sorted_rows.2 a n)) (Memᴰ.append_cases w.low m)

  to_now : (a : RowOf (Load 12)) → a ∈ w.low ++ t.now_rows → a ∈ U
  to_now a m = ⊎_elim (λ (l : a ∈ w.low). Memᴰ.append_left N l) (λ (n : a ∈ t.now_rows). Memᴰ.append_right w.low (permuted_in N t.now_rows (IsPermutation-sym t.now_rows N sorted_rows.2) a n)) (Memᴰ.append_cases w.low m)

  new_level : (a : RowOf (Load 12)) → a ∈ N → grade w.sizes a.head.0 ≡ g
  new_level a m = retail_grade K R (alike_of weights w.working.setting) g w.low w.fresh t.now_rows w.new t.tails.rows a (permuted_in t.now_rows N sorted_rows.2 a m)

  -- no two of the new rows share a head, neither before their tails were settled nor now
  now_apart : (i j : ℕ) → i < j → j < length N → ¬ (head_of (get_or N i no_row) ≡ head_of (get_or N j no_row))
  now_apart = still_apart t.now_rows N sorted_rows.2 λ i j a b e.
      let long : length t.now_rows ≡ length w.fresh = retail_long K R (alike_of weights w.working.setting) g w.low t.tails.rows in
      sorted_at (λ (x y : RowOf (Load 12)). ¬ (x.head ≡ y.head)) no_row w.apart (length w.low + i) (length w.low + j) (omega arith) (omega (arith, length-append w.low w.fresh, long))
      (load_path (was i ∙ e ∙ sym (was j)))
    where
      was : (i : ℕ) → head_of (get_or (w.low ++ w.fresh) (length w.low + i) no_row) ≡ head_of (get_or t.now_rows i no_row)
      was i = ap head_of (get_or-append-add w.low w.fresh i no_row) ∙ ap (λ (x : Load 12). x.0) (sym (retail_at K R (alike_of weights w.working.setting) g w.low no_row t.tails.rows i))

  in_order : Sorted (Above K ByCounts) w.low → Sorted (Above K ByCounts) U
  in_order low = sorted_append (Above K ByCounts) low (at_sorted (Above K ByCounts) no_row N by_number) (λ a b m n. inl (omega (arith, (w.new.low.heads a m).under, new_level b n)))
    where
      there : (i : ℕ) → head_of (get_or N i no_row) ≡ head_at after (base + i)
      there i = ap head_of (sym (get_or-append-add w.low N i no_row)) ∙ head_is U after now_is (length w.low + i) ∙ ap (λ (k : ℕ). head_at after (k + i)) low-long

      by_number : (i j : ℕ) → i < j → j < length N → Above K ByCounts (get_or N i no_row) (get_or N j no_row)
      by_number i j a b =
          inr (
            new_level (get_or N i no_row) (at_mem no_row N i (omega arith)) ∙ sym (new_level (get_or N j no_row) (at_mem no_row N j b)),
            go (lex_compare (head_of (get_or N i no_row)) (head_of (get_or N j no_row)) ((get_or N i no_row).head.1 ∙ sym (get_or N j no_row).head.1)),
          )
        where
          go : Which (Lex (head_of (get_or N i no_row)) (head_of (get_or N j no_row))) (head_of (get_or N i no_row) ≡ head_of (get_or N j no_row)) (Lex (head_of (get_or N j no_row)) (head_of (get_or N i no_row))) → Lex (head_of (get_or N i no_row)) (head_of (get_or N j no_row))
          go (first l) = l
          go (equal e) = absurd (now_apart i j a b e)
          go (second l) = absurd (sorted.ordered (base + i) (base + j) (omega arith) (omega arith) (omega (arith, ap length now_is, length-map U plain, length-append w.low N)) (subst (λ (x : List ℕ). Lex x (head_at after (base + i))) (there j) (subst (Lex (head_of (get_or N j no_row))) (there i) l)))

  -- the heads of the rows below are where they were
  pub heads_kept : (start : List Row) → plain_table w.low ≡ start → (i : ℕ) → i < base → head_at after i ≡ head_at start i
  heads_kept start e₀ i l =
      sym (head_is U after now_is i) ∙ ap head_of (get_or_append_left w.low N no_row i (omega (arith, low-long))) ∙ head_is w.low start e₀ i

  -- ONE GRADE ENDED
  pub grade_ended :
      (start : List Row) (e₀ : plain_table w.low ≡ start) (list : List Pair) → PairList w.bound w.sizes start (length start) list
      → Sorted (Above K ByCounts) w.low → SwapsJoined weights w.working.setting g w.low (length sheet) w.fresh → PairsJoined weights w.working.setting g w.low list w.fresh
      → AtGrade w.working (suc g) after
  grade_ended start e₀ list entered low sw pr = record {
    all = U;
    is = now_is;
    right = grade_end weights w.working.setting w.low start e₀ list entered g w.bounded w.fresh w.new sw pr t.now_rows t.tails U to_now to_old;
    order = in_order low;
  }
