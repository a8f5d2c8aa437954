-- Settled loads, heads and the finished table of lists are those of the theory, for any relation of lists that matches
-- one of the theory's; what loads reach by a sheet is one.
-- Assumes nothing.
use Rattle.std.specs.Prelude.{ℕ, suc, ◌<◌, ◌≡◌, refl, ◌⊎◌, List, length, get_or, ℤ}
use Rattle.std.proofs.Common.{ap, sym, subst, ◌∙◌, inl, inr, arith, length-set}
use Rattle.std.proofs.lemmas.List.{length-replicate}
use Rattle.terms.specs.Load.{plus, zeros, without_one}
use Rattle.terms.specs.Order.{Before, Lex}
use Rattle.terms.specs.Swaps.{Reaches}
use Rattle.terms.specs.Table.{FirstReached, Settled, Head, Row, Above, Finished}
use Rattle.laws.specs.Load.{From, unit}
use Rattle.laws.specs.Order.{OrderLaws, Which, Which.first, Which.equal, Which.second, lex_irrefl, lex_trans, lex_compare}
use Rattle.laws.specs.Flat.{Sided}
use Rattle.theory.specs.Kit.{Kit}
use Rattle.theory.specs.Rows.{Row as RowOf}
use Rattle.theory.specs.Table.{Alike, Settled as SettledIn, Head as HeadIn}
use Rattle.theory.specs.Reach.{Reach}
use Rattle.theory.specs.Complete.{Swap as Given}
use Rattle.theory.specs.Finished.{Strict, Finished as FinishedIn}
use Rattle.bridge.specs.Instance.{Load, load_path, sum, Part, the_kit}
use Rattle.bridge.specs.Carry.{mem_map, mem_unmap, sorted_up, sorted_down}
use Rattle.bridge.specs.Loads.{kind_of_part, length_without, without_back, back_without, part_there}
use Rattle.bridge.specs.Rows.{plain, plain_table, plain_sheet, loads_table, plain_loads}
use Rattle.bridge.specs.Reach.{reaches_up, reaches_down}

-- ---- the order of heads at one grade

abbrev pub ByCounts : {n : ℕ} → Load n → Load n → Type 0
ByCounts x y = Lex x.0 y.0

unfoldable pub by_counts : (n : ℕ) → Strict (ByCounts {n = n})
by_counts n = record {
  irrefl = λ x. lex_irrefl x.0;
  trans = λ x y z. lex_trans x.0 y.0 z.0;
  total = λ x y. three x y (lex_compare x.0 y.0 (x.1 ∙ sym y.1));
}
  where
    three : (x y : Load n) → Which (Lex x.0 y.0) (x.0 ≡ y.0) (Lex y.0 x.0) → (x ≡ y) ⊎ (ByCounts x y ⊎ ByCounts y x)
    three x y (first b) = inr (inl b)
    three x y (equal e) = inl (load_path e)
    three x y (second b) = inr (inr b)

-- ---- the relation

-- what lists reach is what the theory's loads reach, and they reach no list of another length
pub record Matches (n : ℕ) (reach : List ℕ → List ℕ → Type 0) (R : Load n → Load n → Type 0) : Type 0 where
  pub keeps : {x y : List ℕ} → length x ≡ n → reach x y → length y ≡ n
  pub into : (x y : Load n) → reach x.0 y.0 → R x y
  pub from : (x y : Load n) → R x y → reach x.0 y.0

abbrev pub one_part : (n i : ℕ) → Load n
one_part n i = (unit n i, length-set (zeros n) i 1 ∙ length-replicate n 0)

module _ (n : ℕ) (sizes : List ℕ) (sized : length sizes ≡ n) (pos : From 1 sizes) (costs : List ℤ) (laws : OrderLaws n (Before costs)) where
  abbrev K : Kit
  K = the_kit n sizes sized pos costs laws

  pub sheet_matches : (S : List (Load n × Load n)) → Matches n (Reaches (plain_sheet S)) (Reach K (Given K S))
  sheet_matches S = record {
    keeps = λ {x = x} e r. (reaches_up n sizes sized pos costs laws S (x, e) r).0;
    into = λ x y r. same x y (reaches_up n sizes sized pos costs laws S x r);
    from = λ x y r. reaches_down n sizes sized pos costs laws S x r;
  }
    where
      same : (x y : Load n) → (e : length y.0 ≡ n) × Reach K (Given K S) x (y.0, e) → Reach K (Given K S) x y
      same x y t =
          let q : (y.0, t.0) ≡ y = load_path refl in
          rw q at t.1

  module _ (reach : List ℕ → List ℕ → Type 0) (R : Load n → Load n → Type 0) (eqv : Alike K R) (match : Matches n reach R) where
    open eqv use {rel_refl}

    -- ---- the first load reached

    pub settled_up : (x : Load n) → Settled costs reach x.0 → SettledIn K R x
    settled_up x s y r b = s.none_before y.0 (match.from x y r) b

    pub first_up : (x y : Load n) → FirstReached costs reach x.0 y.0 → R x y × SettledIn K R y
    first_up x y f =
        let r : R x y = match.into x y f.reached in
        (r, λ z q b. f.none_before z.0 (match.from x z (eqv.rel_trans x y z r q)) b)

    pub first_down : (x y : Load n) → R x y → SettledIn K R y → FirstReached costs reach x.0 y.0
    first_down x y r s = record {
      reached = match.from x y r;
      none_before = λ z q b.
          let w : Load n = (z, match.keeps x.1 q) in
          s w (eqv.rel_trans y x w (eqv.rel_sym x y r) (match.into x w q)) b;
    }

    pub settled_down : (x : Load n) → SettledIn K R x → Settled costs reach x.0
    settled_down x s = first_down x x (rel_refl x) s

    -- ---- heads

    pub head_up : (bound : ℕ) (h : Load n) → Head n bound sizes costs reach h.0 → HeadIn K R (suc bound) h
    head_up bound h p = record { under = omega (arith, p.bounded); unsettled = λ s. p.unsettled (settled_down h s); parts = less_one }
      where
        less_one : (d e : Load n) → Part e → sum d e ≡ h → SettledIn K R d
        less_one d e pe eq =
            let i : ℕ = pe.0 in
            let l : i < length d.0 = rw d.1 pe.1 in
            let q : plus d.0 (unit (length d.0) i) ≡ h.0 = ap (λ (k : ℕ). plus d.0 (unit k i)) d.1 ∙ ap (plus d.0) (sym pe.2) ∙ ap (λ (w : Load n). w.0) eq in
            let there : 0 < get_or h.0 i 0 = subst (λ (w : List ℕ). 0 < get_or w i 0) q (part_there d.0 i l) in
            let w : without_one i h.0 ≡ d.0 = ap (without_one i) (sym q) ∙ back_without d.0 i l in
            settled_up d (subst (Settled costs reach) w (p.parts i there))

    pub head_down : (bound : ℕ) (h : Load n) → HeadIn K R (suc bound) h → Head n bound sizes costs reach h.0
    head_down bound h p = record { counts = h.1; bounded = omega (arith, p.under); unsettled = λ s. p.unsettled (settled_up h s); parts = less_one }
      where
        less_one : (i : ℕ) → 0 < get_or h.0 i 0 → Settled costs reach (without_one i h.0)
        less_one i l =
            let d : Load n = (without_one i h.0, length_without i h.0 ∙ h.1) in
            let k : i < n = rw h.1 at (kind_of_part h.0 i l) in
            let eq : sum d (one_part n i) ≡ h = load_path (ap (λ (m : ℕ). plus (without_one i h.0) (unit m i)) (sym h.1) ∙ without_back h.0 i l) in
            settled_down d (p.parts d (one_part n i) (i, k, refl) eq)

    -- ---- the finished table

    pub finished_down : (bound : ℕ) (T : List (RowOf (Load n))) → FinishedIn K ByCounts R bound T → Finished n bound sizes costs reach (plain_table T)
    finished_down bound T f = record {
      heads = λ a m.
          let r = mem_unmap plain T m in
          subst (λ (b : Row). Head n bound sizes costs reach b.head) r.2 (head_down bound r.0.head (f.rows.heads r.0 r.1));
      tails = λ a m.
          let r = mem_unmap plain T m in
          subst (λ (b : Row). FirstReached costs reach b.head b.tail) r.2 (first_down r.0.head r.0.tail (f.rows.sound r.0 r.1) (f.rows.tails r.0 r.1));
      each = λ h p.
          let r = f.rows.complete (h, p.counts) (head_up bound (h, p.counts) p) in
          (plain r.0, mem_map plain T r.1, ap (λ (w : Load n). w.0) r.2);
      order = sorted_down plain (Above sizes) f.order;
    }

    pub finished_up : (bound : ℕ) (T : List (RowOf (Load n))) → Finished n bound sizes costs reach (plain_table T) → FinishedIn K ByCounts R bound T
    finished_up bound T f = record {
      rows = record {
        heads = λ a m. head_up bound a.head (f.heads (plain a) (mem_map plain T m));
        sound = λ a m. (first_up a.head a.tail (f.tails (plain a) (mem_map plain T m))).0;
        tails = λ a m. (first_up a.head a.tail (f.tails (plain a) (mem_map plain T m))).1;
        complete = λ h p.
            let r = f.each h.0 (head_down bound h p) in
            let u = mem_unmap plain T r.1 in
            (u.0, u.1, load_path (ap (λ (a : Row). a.head) u.2 ∙ r.2));
      };
      order = sorted_up plain (Above sizes) T f.order;
    }

    -- the sides of a finished table's rows have n counts
    pub finished_sided : (bound : ℕ) (T : List Row) → Finished n bound sizes costs reach T → Sided n T
    finished_sided bound T f a m =
        let e : length a.head ≡ n = (f.heads a m).counts in
        record { of_head = e; of_tail = match.keeps e (f.tails a m).reached }

    -- a finished table of lists is read from one of the theory's
    pub finished_loads : (bound : ℕ) (T : List Row) → Finished n bound sizes costs reach T → (U : List (RowOf (Load n))) × (plain_table U ≡ T) × FinishedIn K ByCounts R bound U
    finished_loads bound T f =
        let w : Sided n T = finished_sided bound T f in
        let U : List (RowOf (Load n)) = loads_table T w in
        (U, plain_loads T w, finished_up bound U (subst (Finished n bound sizes costs reach) (sym (plain_loads T w)) f))
