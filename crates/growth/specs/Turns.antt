-- One turn of the loops over the swaps and over the listed pairs of a grade.
-- Assumes nothing.
use Rattle.std.specs.Prelude.{ℕ, ◌+◌, ◌≤◌, ◌<◌, ◌≡◌, List, [], ◌∷◌, ◌++◌, length, get_or}
use Rattle.std.proofs.Common.{ap, sym, subst, ◌∙◌, inl, ⊎_elim, arith}
use mathlib.Core.List.Memᴰ
use Rattle.std.proofs.Math.Decide.{dec_lt}
use Rattle.terms.specs.Load.{grade, less}
use Rattle.terms.specs.Swaps.{◌∈◌, Swap, exchange}
use Rattle.terms.specs.Table.{Row}
use Rattle.laws.specs.Load.{join, plus_comm}
use Rattle.theory.specs.Kit.{Kit}
use Rattle.theory.specs.Rows.{Row as RowOf}
use Rattle.theory.specs.Settle.{nf}
use Rattle.theory.specs.Table.{Alike}
use Rattle.theory.specs.Reach.{either_reach}
use Rattle.theory.specs.Grow.{Later}
use Rattle.theory.specs.Index.{at_mem}
use Rattle.theory.specs.Complete.{Swap as Given, left_side, right_side, pair_rel, duty_later}
use Rattle.pairs.specs.declared.Pair.{Pair}
use Rattle.bridge.specs.Instance.{Load, rest_of}
use Rattle.growth.specs.Setting.{Setting, no_row, no_swap, swap_of, KitOf, SheetOf, RelOf, alike_of, even_of, sheet_long, left_is, right_is}
use Rattle.growth.specs.Meets.{Meets, meets_grew}
use Rattle.growth.specs.Grade.{Grows, grows_map, grows_more, SwapsJoined, PairsJoined, AlikeMade, common_grade}

module _ {bound : ℕ} {sizes : List ℕ} {sheet : List Swap} (weights : List ℕ) (s : Setting bound sizes sheet) (g : ℕ) (T₀ : List (RowOf (Load 12))) where
  abbrev K : Kit
  K = KitOf weights s

  abbrev R : Load 12 → Load 12 → Type 0
  R = RelOf weights s

  abbrev eqv : Alike K R
  eqv = alike_of weights s

  -- two loads of lists that meet, as loads of the theory
  pub meets_more :
      (N : List (RowOf (Load 12))) (U W : List Row) (J J' : List (RowOf (Load 12)) → Type 0) (x y : Load 12) (w : Grows weights s g T₀ N U J)
      → grade sizes x.0 ≡ g → R x y → Meets weights U x.0 y.0 W
      → ((M O : List (RowOf (Load 12))) → Later K R eqv g T₀ M O → J M → nf K (T₀ ++ O) x ≡ nf K (T₀ ++ O) y → J' O)
      → Grows weights s g T₀ N W J'
  meets_more N U W J J' x y w q r m f =
      grows_more weights s g T₀ N U W J J' x y w
      (meets_grew weights s g T₀ w.rows w.later.new w.apart x y q r (subst (λ (L : List Row). Meets weights L x.0 y.0 W) (sym w.is) m)) f

  -- ---- swaps

  module _ (N : List (RowOf (Load 12))) (k : ℕ) (l : k < length sheet) where
    abbrev one : Load 12
    one = (get_or (SheetOf weights s) k no_swap).0

    abbrev other : Load 12
    other = (get_or (SheetOf weights s) k no_swap).1

    there : get_or (SheetOf weights s) k no_swap ∈ SheetOf weights s
    there = at_mem no_swap (SheetOf weights s) k (rw (sheet_long weights s) l)

    joined_next :
        (M O : List (RowOf (Load 12))) → Later K R eqv g T₀ M O → SwapsJoined weights s g T₀ k M
        → (grade sizes one.0 ≡ g → nf K (T₀ ++ O) one ≡ nf K (T₀ ++ O) other) → SwapsJoined weights s g T₀ (k + 1) O
    joined_next M O later h new i m q = go (dec_lt i k)
      where
        go : Dec (i < k) → nf K (T₀ ++ O) (get_or (SheetOf weights s) i no_swap).0 ≡ nf K (T₀ ++ O) (get_or (SheetOf weights s) i no_swap).1
        go (yes p) =
            let in-sheet : get_or (SheetOf weights s) i no_swap ∈ SheetOf weights s = at_mem no_swap (SheetOf weights s) i (omega (arith, sheet_long weights s)) in
            later.stay (get_or (SheetOf weights s) i no_swap).0 (get_or (SheetOf weights s) i no_swap).1 q (sym (even_of weights s (get_or (SheetOf weights s) i no_swap) in-sheet) ∙ q) (h i p q)
        go (no n) = let e : i ≡ k = omega arith in rw e (new (rw e at q))

    pub swap_turn :
        (U W : List Row) → Grows weights s g T₀ N U (SwapsJoined weights s g T₀ k) → grade sizes ((swap_of sheet k).left) ≡ g
        → Meets weights U ((swap_of sheet k).left) ((swap_of sheet k).right) W → Grows weights s g T₀ N W (SwapsJoined weights s g T₀ (k + 1))
    swap_turn U W w q m =
        let a : one.0 ≡ (swap_of sheet k).left = left_is weights s k in
        let b : other.0 ≡ (swap_of sheet k).right = right_is weights s k in
        let m' : Meets weights U one.0 other.0 W = subst (λ (z : List ℕ). Meets weights U one.0 z W) (sym b) (subst (λ (z : List ℕ). Meets weights U z ((swap_of sheet k).right) W) (sym a) m) in
        meets_more N U W (SwapsJoined weights s g T₀ k) (SwapsJoined weights s g T₀ (k + 1)) one other w (ap (grade sizes) a ∙ q)
        (either_reach K (Given K (SheetOf weights s)) (λ l r n. even_of weights s (l, r) n) one other (inl there)) m'
        (λ M O later h e. joined_next M O later h (λ z. e))

    pub swap_skip :
        (U : List Row) → (grade sizes ((swap_of sheet k).left) ≡ g → ⊥) → Grows weights s g T₀ N U (SwapsJoined weights s g T₀ k) → Grows weights s g T₀ N U (SwapsJoined weights s g T₀ (k + 1))
    swap_skip U n w =
        grows_map weights s g T₀ N U (SwapsJoined weights s g T₀ k) (SwapsJoined weights s g T₀ (k + 1))
        (λ M new h i m q. go M h i m q (dec_lt i k)) w
      where
        go : (M : List (RowOf (Load 12))) → SwapsJoined weights s g T₀ k M → (i : ℕ) → i < k + 1 → grade sizes (get_or (SheetOf weights s) i no_swap).0.0 ≡ g → Dec (i < k) → nf K (T₀ ++ M) (get_or (SheetOf weights s) i no_swap).0 ≡ nf K (T₀ ++ M) (get_or (SheetOf weights s) i no_swap).1
        go M h i m q (yes p) = h i p q
        go M h i m q (no p) = let e : i ≡ k = omega arith in absurd (n (ap (grade sizes) (sym (left_is weights s k)) ∙ rw e at q))

  -- swaps that were joined stay joined
  pub swaps_stay : (k : ℕ) → k ≤ length sheet → (M O : List (RowOf (Load 12))) → Later K R eqv g T₀ M O → SwapsJoined weights s g T₀ k M → SwapsJoined weights s g T₀ k O
  swaps_stay k l M O later h i m q =
      let in-sheet : get_or (SheetOf weights s) i no_swap ∈ SheetOf weights s = at_mem no_swap (SheetOf weights s) i (omega (arith, sheet_long weights s)) in
      later.stay (get_or (SheetOf weights s) i no_swap).0 (get_or (SheetOf weights s) i no_swap).1 q (sym (even_of weights s (get_or (SheetOf weights s) i no_swap) in-sheet) ∙ q) (h i m q)

  -- ---- listed pairs

  -- what row a makes of the least load that holds its head and b's
  pub left_made : (a b : RowOf (Load 12)) → (left_side K R eqv g T₀ a b).0 ≡ exchange a.head.0 a.tail.0 (join a.head.0 b.head.0)
  unfolding rest_of
  left_made a b = plus_comm a.tail.0 (less (join a.head.0 b.head.0) a.head.0)

  pub right_made : (a b : RowOf (Load 12)) → (right_side K R eqv g T₀ a b).0 ≡ exchange b.head.0 b.tail.0 (join a.head.0 b.head.0)
  unfolding rest_of
  right_made a b = plus_comm b.tail.0 (less (join a.head.0 b.head.0) b.head.0)

  abbrev Made : List (RowOf (Load 12)) → ℕ → ℕ → Type 0
  Made = AlikeMade weights s g T₀

  abbrev Common : ℕ → ℕ → ℕ
  Common = common_grade weights s g T₀

  -- a pair that was joined stays joined
  pub pair_stays : (M O : List (RowOf (Load 12))) → Later K R eqv g T₀ M O → (a b : ℕ) → a < b → b < length T₀ → Common a b ≡ g → Made M a b → Made O a b
  unfolding AlikeMade
  pair_stays M O later a b l m d e =
      duty_later K R eqv g T₀ (get_or T₀ a no_row) M O (get_or T₀ b no_row) later (λ m₁ m₂ q. e) (at_mem no_row T₀ a (omega arith)) (at_mem no_row T₀ b m) d

  module _ (N : List (RowOf (Load 12))) (list : List Pair) (a : Pair) (l : a.first < a.second) (few : a.second < length T₀) where
    abbrev A : RowOf (Load 12)
    A = get_or T₀ a.first no_row

    abbrev B : RowOf (Load 12)
    B = get_or T₀ a.second no_row

    pairs_next :
        (M O : List (RowOf (Load 12))) → ((p j : ℕ) → p < j → j < length T₀ → Common p j ≡ g → Made M p j → Made O p j)
        → PairsJoined weights s g T₀ list M → (Common a.first a.second ≡ g → Made O a.first a.second) → PairsJoined weights s g T₀ (list ++ a ∷ []) O
    pairs_next M O stays h new b m p<j j< d =
        ⊎_elim (λ (n : b ∈ list). stays b.first b.second p<j j< d (h b n p<j j< d))
        (λ (n : b ∈ a ∷ []). subst (λ (c : Pair). Common c.first c.second ≡ g → Made O c.first c.second) (sym (Memᴰ.eq_of_singleton n)) new d) (Memᴰ.append_cases list m)

    made : (M : List (RowOf (Load 12))) → nf K (T₀ ++ M) (left_side K R eqv g T₀ A B) ≡ nf K (T₀ ++ M) (right_side K R eqv g T₀ A B) → Made M a.first a.second
    unfolding AlikeMade
    made M e = e

    pub pair_turn :
        (U W : List Row) → Grows weights s g T₀ N U (PairsJoined weights s g T₀ list) → Common a.first a.second ≡ g
        → Meets weights U (exchange A.head.0 A.tail.0 (join A.head.0 B.head.0)) (exchange B.head.0 B.tail.0 (join A.head.0 B.head.0)) W
        → Grows weights s g T₀ N W (PairsJoined weights s g T₀ (list ++ a ∷ []))
    pair_turn U W w q m =
        let tab = w.later.new.low in
        let rel = pair_rel K R eqv g T₀ tab A B (at_mem no_row T₀ a.first (omega arith)) (at_mem no_row T₀ a.second few) in
        let m' : Meets weights U left.0 right.0 W = subst (λ (z : List ℕ). Meets weights U left.0 z W) (sym (right_made A B)) (subst (λ (z : List ℕ). Meets weights U z (exchange B.head.0 B.tail.0 (join A.head.0 B.head.0)) W) (sym (left_made A B)) m) in
        meets_more N U W (PairsJoined weights s g T₀ list) (PairsJoined weights s g T₀ (list ++ a ∷ [])) left right w
        (sym (eqv.rel_grade (Kit.join K A.head B.head) left rel.0) ∙ q)
        (eqv.rel_trans left (Kit.join K A.head B.head) right (eqv.rel_sym (Kit.join K A.head B.head) left rel.0) rel.1)
        m' (λ M O later h e. pairs_next M O (pair_stays M O later) h (λ d. made O e))
      where
        left : Load 12
        left = left_side K R eqv g T₀ A B

        right : Load 12
        right = right_side K R eqv g T₀ A B

    pub pair_skip : (U : List Row) → (Common a.first a.second ≡ g → ⊥) → Grows weights s g T₀ N U (PairsJoined weights s g T₀ list) → Grows weights s g T₀ N U (PairsJoined weights s g T₀ (list ++ a ∷ []))
    pair_skip U n w =
        grows_map weights s g T₀ N U (PairsJoined weights s g T₀ list) (PairsJoined weights s g T₀ (list ++ a ∷ []))
        (λ M new h. pairs_next M M (λ p j x y z e. e) h (λ d. absurd (n d))) w
