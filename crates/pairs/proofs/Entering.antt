-- What the loops hold while a row is entered, turn by turn.
-- Assumes nothing.
use Rattle.std.proofs.Common.{ℕ, zero, suc, get_or, Contains, ◌+◌, ◌≤◌, ◌<◌, ◌≡◌, refl, sym, ap, subst, ◌∙◌, ◌⊎◌, inl, inr, ⊎_elim, List, [], ◌∷◌, ◌++◌, length, length-append, eq-or-lt_of_le, le_of_suc-le-suc, add-one, below_more, arith, Bool, true, false, not, cond}
use Rattle.std.specs.List.Retain.{RetainsInTurn}
use Rattle.terms.specs.Decides.{Decides}
use mathlib.Core.List.Memᴰ
use Rattle.terms.specs.Load.{Fits, grade}
use Rattle.terms.specs.Swaps.{◌∈◌}
use Rattle.terms.specs.Table.{Row}
use Rattle.rack.specs.Rows.{head_at}
use Rattle.pairs.specs.declared.Pair.{Pair}
use Rattle.pairs.specs.declared.Candidate.{Candidate}
use Rattle.pairs.specs.Pairs.{common, triangle, Pivot, Entry, PairList}
use Rattle.pairs.specs.Candidates.{Among, Graded, Picked, Sifted, Taken}
use Rattle.pairs.proofs.Laws.{triangle_room}

-- one more behind a list
long_more : {A : Type 0} (l : List A) (a : A) → length (l ++ a ∷ []) ≡ length l + 1
long_more l a = length-append l (a ∷ [])

each_more : {A : Type 0} (P : A → Type 0) (l : List A) (a : A) → ((b : A) → b ∈ l → P b) → P a → (b : A) → b ∈ l ++ a ∷ [] → P b
each_more P l a old new b m = ⊎_elim (old b) (λ (n : b ∈ a ∷ []). subst P (sym (Memᴰ.eq_of_singleton n)) new) (Memᴰ.append_cases l m)

here : {A : Type 0} (l : List A) (a : A) → a ∈ l ++ a ∷ []
here l a = Memᴰ.append_right l (Memᴰ.head refl)

at_in : {A : Type 0} (l : List A) (k : ℕ) (d : A) → k < length l → get_or l k d ∈ l
at_in [] k d h = absurd (omega arith)
at_in (x ∷ l) zero d h = Memᴰ.head refl
at_in (x ∷ l) (suc k) d h = Memᴰ.tail (at_in l k d (omega arith))

pub contained : {A : Type 0} {l k : List A} {a : A} → l ≡ k → Contains l a → a ∈ k
contained {A = A} {l} {k} {a} e w = subst (λ (m : List A). a ∈ m) e (Memᴰ.cast (sym w.2) (at_in l w.0 a w.1))

-- ---- the candidates are picked

module _ (bound : ℕ) (sizes : List ℕ) (T : List Row) (j : ℕ) where
  pub picked_start : Picked bound sizes T j 0 []
  picked_start = record {
    right = record { below = λ a m. absurd (Memᴰ.not-nil m); graded = λ a m. absurd (Memᴰ.not-nil m) };
    all = λ i h q. absurd (omega arith);
    few = omega arith;
  }

  module _ (i : ℕ) (picked : List Candidate) (so : Picked bound sizes T j i picked) where
    -- row i is over the bound
    pub picked_past : bound < grade sizes (common T i j) → Picked bound sizes T j (i + 1) picked
    picked_past over = record {
      right = record { below = λ a m. omega (arith, so.right.below a m); graded = so.right.graded };
      all = below_more (λ k. grade sizes (common T k j) ≤ bound → Among picked k) i so.all (λ q. absurd (omega arith));
      few = omega (arith, so.few);
    }

    -- row i becomes a candidate
    pub picked_more : (g : ℕ) → g ≡ grade sizes (common T i j) → Picked bound sizes T j (i + 1) (picked ++ record { row = i; grade = g } ∷ [])
    picked_more g e = record {
      right = record {
        below = each_more (λ a. a.row < i + 1) picked new (λ a m. omega (arith, so.right.below a m)) (omega arith);
        graded = each_more (λ a. a.grade ≡ grade sizes (common T a.row j)) picked new so.right.graded e;
      };
      all = below_more (λ k. grade sizes (common T k j) ≤ bound → Among (picked ++ new ∷ []) k) i (λ k h w. more k (so.all k h w)) (λ w. (new, here picked new, refl));
      few = omega (arith, so.few, long_more picked new);
    }
      where
        new : Candidate
        new = record { row = i; grade = g }

        more : (k : ℕ) → Among picked k → Among (picked ++ new ∷ []) k
        more k (a, m, e) = (a, Memᴰ.append_left (new ∷ []) m, e)

-- ---- the candidates are sifted

-- what `retain` leaves, where its closure keeps each candidate for which row p is no pivot
module _ (T : List Row) (p j : ℕ) (low : p < j) where
  abbrev Held : Candidate → Type 0
  Held a = (a.row < j) × Fits (head_at T p) (common T a.row j)

  sifted_turn : (x : Candidate) (xs zs ys : List Candidate) (b : Bool) → Decides (Held x) (not b) × (x.row < j → Fits (head_at T p) (common T p j)) → ys ≡ cond b (x ∷ zs) zs → Sifted T p j xs zs → Sifted T p j (x ∷ xs) ys
  sifted_turn x xs zs ys true d e so = rw e record {
    from = λ a m. ⊎_elim (λ (q : a ≡ x). Memᴰ.head q) (λ (n : a ∈ zs). Memᴰ.tail (so.from a n)) (Memᴰ.cases_cons m);
    kept = λ a m. ⊎_elim (λ (q : a ≡ x). inl (Memᴰ.head q)) (λ (n : a ∈ xs). ⊎_elim (λ (w : a ∈ zs). inl (Memᴰ.tail w)) (λ (f : Fits (head_at T p) (common T a.row j)). inr f) (so.kept a n)) (Memᴰ.cases_cons m);
    fewer = λ w. ⊎_elim (λ (q : w.0 ≡ x). let e : p ≡ x.row = sym w.2 ∙ ap (λ (a : Candidate). a.row) q in absurd (d.0.fails refl (subst (λ (i : ℕ). (i < j) × Fits (head_at T p) (common T i j)) e (low, d.1 (subst (λ (i : ℕ). i < j) e low))))) (λ (n : w.0 ∈ xs). omega (arith, so.fewer (w.0, n, w.2))) (Memᴰ.cases_cons w.1);
    few = omega (arith, so.few);
  }
  sifted_turn x xs zs ys false d e so = rw e record {
    from = λ a m. Memᴰ.tail (so.from a m);
    kept = λ a m. ⊎_elim (λ (q : a ≡ x). inr (subst (λ (c : Candidate). Fits (head_at T p) (common T c.row j)) (sym q) (d.0.holds refl).1)) (λ (n : a ∈ xs). so.kept a n) (Memᴰ.cases_cons m);
    fewer = λ w. omega (arith, so.few);
    few = omega (arith, so.few);
  }

  pub sifted_by :
      {F : Type 0} (R : F → Candidate → Bool → F → Candidate → Type 0) (f : F)
      → ((x : Candidate) (b : Bool) (f' : F) (y : Candidate) → R f x b f' y → (Decides (Held x) (not b) × (x.row < j → Fits (head_at T p) (common T p j))) × (f' ≡ f) × (y ≡ x))
      → (xs ys : List Candidate) → RetainsInTurn R f xs ys → Sifted T p j xs ys
  sifted_by R f says [] ys h = rw h record { from = λ a m. m; kept = λ a m. inl m; fewer = λ w. absurd (Memᴰ.not-nil w.1); few = omega arith }
  sifted_by R f says (x ∷ xs) ys h =
      let said = says x h.0 h.1 h.2 h.3 in
      let later = subst (λ g. RetainsInTurn R g xs h.4) said.1 h.5 in
      sifted_turn x xs h.4 ys h.0 said.0 (h.6 ∙ ap (λ (y : Candidate). cond h.0 (y ∷ h.4) h.4) said.2) (sifted_by R f says xs h.4 later)

-- ---- the row is entered

-- each lower row within the bound is still a candidate, or has its pivot
pub record Entering (bound : ℕ) (sizes : List ℕ) (T : List Row) (j : ℕ) (candidates : List Candidate) (list : List Pair) : Type 0 where
  pub right : Graded sizes T j j candidates
  pub entries : (a : Pair) → a ∈ list → Entry sizes T (j + 1) a
  pub lower : (i k : ℕ) → i < k → k < j → grade sizes (common T i k) ≤ bound → Pivot T list i k
  pub here : (i : ℕ) → i < j → grade sizes (common T i j) ≤ bound → Among candidates i ⊎ Pivot T list i j
  pub few : length list + length candidates ≤ j + triangle j

module _ (bound : ℕ) (sizes : List ℕ) (T : List Row) (j : ℕ) where
  pub entering_start : (candidates : List Candidate) (list : List Pair) → PairList bound sizes T j list → Picked bound sizes T j j candidates → Entering bound sizes T j candidates list
  entering_start candidates list so picked = record {
    right = picked.right;
    entries = λ a m. record { apart = (so.entries a m).apart; below = omega (arith, (so.entries a m).below); graded = (so.entries a m).graded };
    lower = so.cover;
    here = λ i h q. inl (picked.all i h q);
    few = omega (arith, picked.few, so.few);
  }

  -- no candidate is left
  pub entering_end : (candidates : List Candidate) (list : List Pair) → length candidates ≡ 0 → Entering bound sizes T j candidates list → PairList bound sizes T (j + 1) list
  entering_end [] list none so = record {
    entries = so.entries;
    cover = λ i k l h q. ⊎_elim (λ (e : k ≡ j). rw e (own i (omega arith) (rw e at q))) (λ (w : k < j). so.lower i k l w q) (eq-or-lt_of_le (le_of_suc-le-suc (rw add-one at h)));
    few = omega (arith, so.few, ap triangle (add-one j));
  }
    where
      own : (i : ℕ) → i < j → grade sizes (common T i j) ≤ bound → Pivot T list i j
      own i l q = ⊎_elim (λ (w : Among [] i). absurd (Memᴰ.not-nil w.1)) (λ (w : Pivot T list i j). w) (so.here i l q)
  entering_end (a ∷ candidates) list none so = absurd (omega arith)

  -- a candidate is listed with row j, and the candidates are sifted by it
  module _ (candidates : List Candidate) (list : List Pair) (so : Entering bound sizes T j candidates list) (pivot : Candidate) (in-candidates : pivot ∈ candidates) where
    pub entering_next :
        (left : List Candidate) → Sifted T pivot.row j candidates left
        → Entering bound sizes T j left (list ++ record { due = pivot.grade; first = pivot.row; second = j } ∷ [])
    entering_next left sifted = record {
      right = record { below = λ a m. so.right.below a (sifted.from a m); graded = λ a m. so.right.graded a (sifted.from a m) };
      entries = each_more (Entry sizes T (j + 1)) list new so.entries (record { apart = so.right.below pivot in-candidates; below = omega arith; graded = so.right.graded pivot in-candidates });
      lower = λ i k l h q. pivot_more i k (so.lower i k l h q);
      here = λ i l q. ⊎_elim (candidate i) (λ w. inr (pivot_more i j w)) (so.here i l q);
      few = omega (arith, so.few, sifted.fewer (pivot, in-candidates, refl), long_more list new);
    }
      where
        new : Pair
        new = record { due = pivot.grade; first = pivot.row; second = j }

        pivot_more : (i k : ℕ) → Pivot T list i k → Pivot T (list ++ new ∷ []) i k
        pivot_more i k (q, l, f, w) = (q, l, f, (w.0, Memᴰ.append_left (new ∷ []) w.1, w.2, w.3))

        candidate : (i : ℕ) → Among candidates i → Among left i ⊎ Pivot T (list ++ new ∷ []) i j
        candidate i (a, m, e) =
            ⊎_elim (λ (w : a ∈ left). inl (a, w, e)) (λ (f : Fits (head_at T pivot.row) (common T a.row j)). inr (pivot.row, so.right.below pivot in-candidates, subst (λ (k : ℕ). Fits (head_at T pivot.row) (common T k j)) e f, (new, here list new, refl, refl))) (sifted.kept a m)

  -- a pair is taken: it is listed, and there is room for it
  module _ (candidates left : List Candidate) (list : List Pair) (pair : Pair) (so : Entering bound sizes T j candidates list) (taken : Taken T j candidates pair left) where
    pub entering_taken : Entering bound sizes T j left (list ++ pair ∷ [])
    entering_taken = rw taken.paired (entering_next candidates list so taken.pivot taken.among left taken.sifted)

    pub entering_room : j < 256 → length list < 32640
    entering_room l = omega (arith, so.few, taken.sifted.fewer (taken.pivot, taken.among, refl), triangle_room j l)
