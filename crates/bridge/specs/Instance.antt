-- The kit of lists of n counts with the cost order: the one instance of the theory's abstract kit.
-- Assumes nothing.
use Rattle.std.specs.Prelude.{ℕ, ◌+◌, ◌≤◌, ◌<◌, max, ◌≡◌, refl, ◌⊎◌, List, length, get_or, ℤ}
use Rattle.std.proofs.Common.{ap, sym, ◌∙◌, inl, inr, ⊎_elim, length-set, get_or-set_same, arith}
use mathlib.Core.HLevel.{Σ_prop_path}
use Rattle.std.proofs.lemmas.List.{length-replicate, get_or-replicate}
use Rattle.std.proofs.Math.Nat.{ℕ_set}
use Rattle.terms.specs.Load.{plus, less, zeros, Fits, grade}
use Rattle.terms.specs.Order.{Before}
use Rattle.theory.specs.Kit.{Kit}
use Rattle.laws.specs.Load.{join, unit, From, UpTo, length_both, plus_comm, plus_assoc, plus_cancel, plus_zeros, plus_less, length_less, fits_iff, fits?, join_left, join_right, join_least, grade_plus, counts_up_to, none_of_zero, grade_pos, zero_or_unit}
use Rattle.laws.specs.Order.{OrderLaws, Which, Which.first, Which.equal, Which.second}

abbrev pub Load : ℕ → Type 0
Load n = (x : List ℕ) × (length x ≡ n)

pub load_path : {n : ℕ} {x y : Load n} → x.0 ≡ y.0 → x ≡ y
load_path {n} e = Σ_prop_path (λ l. ℕ_set (length l) n) e

abbrev pub sum : {n : ℕ} → Load n → Load n → Load n
sum x y = (plus x.0 y.0, length_both ◌+◌ x.0 y.0 (x.1 ∙ sym y.1) ∙ x.1)

abbrev pub both : {n : ℕ} → Load n → Load n → Load n
both x y = (join x.0 y.0, length_both max x.0 y.0 (x.1 ∙ sym y.1) ∙ x.1)

abbrev pub Rest : {n : ℕ} → Load n → Load n → Type 0
Rest {n} h x = (c : Load n) × (sum h c ≡ x)

unfoldable pub rest_of : {n : ℕ} (h x : Load n) → Fits h.0 x.0 → Rest h x
rest_of h x w = ((less x.0 h.0, length_less h.0 x.0 w ∙ h.1), load_path (plus_less h.0 x.0 w))

pub fits_of : {n : ℕ} (h x : Load n) → Rest h x → Fits h.0 x.0
fits_of {n} h x r = (fits_iff h.0 x.0).1 (r.0.0, r.0.1 ∙ sym h.1, ap (λ (w : Load n). w.0) r.1)

unfoldable pub rest? : {n : ℕ} (h x : Load n) → Dec (Rest h x)
rest? h x = go (fits? h.0 x.0)
  where
    go : Dec (Fits h.0 x.0) → Dec (Rest h x)
    go (yes w) = yes (rest_of h x w)
    go (no n) = no (λ r. n (fits_of h x r))

abbrev pub Part : {n : ℕ} → Load n → Type 0
Part {n} e = (i : ℕ) × (i < n) × (e.0 ≡ unit n i)

pub part_of : {n : ℕ} (x : Load n) → ¬ (x ≡ (zeros n, length-replicate n 0)) → (e : Load n) × Part e × Rest e x
part_of {n} x m = ⊎_elim (λ (e : x.0 ≡ zeros (length x.0)). absurd (m (load_path (e ∙ ap zeros x.1)))) found (zero_or_unit x.0)
  where
    found : ((i : ℕ) × (i < length x.0) × Fits (unit (length x.0) i) x.0) → (e : Load n) × Part e × Rest e x
    found t =
        let w : Fits (unit n t.0) x.0 = rw x.1 at t.2 in
        let e : Load n = (unit n t.0, length-set (zeros n) t.0 1 ∙ length-replicate n 0) in
        (e, (t.0, rw x.1 at t.1, refl), rest_of e x w)

module _ (n : ℕ) (sizes : List ℕ) (sized : length sizes ≡ n) (pos : From 1 sizes) (costs : List ℤ) (laws : OrderLaws n (Before costs)) where
  pub part_grade : (e : Load n) → Part e → 0 < grade sizes e.0
  part_grade e p = grade_pos sizes e.0 (e.1 ∙ sym sized) pos λ z.
      let i : ℕ = p.0 in
      let l : i < length (zeros n) = rw (length-replicate {A = ℕ} n 0) p.1 in
      let one : get_or e.0 i 0 ≡ 1 = ap (λ (x : List ℕ). get_or x i 0) p.2 ∙ get_or-set_same (zeros n) i 1 0 l in
      let none : get_or e.0 i 0 ≡ 0 = ap (λ (x : List ℕ). get_or x i 0) z ∙ get_or-replicate (length e.0) i 0 0 (rw e.1 p.1) in
      omega arith

  unfoldable pub three : (x y : Load n) → Which (Before costs x.0 y.0) (x.0 ≡ y.0) (Before costs y.0 x.0) → (x ≡ y) ⊎ (Before costs x.0 y.0 ⊎ Before costs y.0 x.0)
  three x y (first b) = inr (inl b)
  three x y (equal e) = inl (load_path e)
  three x y (second b) = inr (inr b)

  pub counts : (x : Load n) {m : ℕ} → grade sizes x.0 ≤ m → UpTo m x.0
  counts x {m} l = counts_up_to sizes x.0 m (x.1 ∙ sym sized) pos l

  abbrev pub the_kit : Kit
  the_kit = record {
    L = Load n;
    ◌⊕◌ = sum;
    𝟘 = (zeros n, length-replicate n 0);
    ⊕_assoc = λ x y z. load_path (plus_assoc x.0 y.0 z.0);
    ⊕_comm = λ x y. load_path (plus_comm x.0 y.0);
    ⊕_zero = λ x. load_path (rw (← x.1) (plus_zeros x.0));
    ⊕_cancel = λ x y z e. load_path (plus_cancel x.0 y.0 z.0 (y.1 ∙ sym x.1) (z.1 ∙ sym x.1) (ap (λ (w : Load n). w.0) e));
    grade = λ x. grade sizes x.0;
    grade_⊕ = λ x y. grade_plus sizes x.0 y.0 (x.1 ∙ sym y.1);
    grade_zero = λ x e. load_path (none_of_zero x.0 (counts x (omega arith)) ∙ ap zeros x.1);
    fits? = rest?;
    join = both;
    join_left = λ x y. rest_of x (both x y) (join_left x.0 y.0 (x.1 ∙ sym y.1));
    join_right = λ x y. rest_of y (both x y) (join_right x.0 y.0 (x.1 ∙ sym y.1));
    join_least = λ x y u p q. rest_of (both x y) u (join_least x.0 y.0 u.0 (fits_of x u p) (fits_of y u q));
    Part = Part;
    part_of = part_of;
    part_grade = part_grade;
    before = λ x y. Before costs x.0 y.0;
    tri = λ x y. three x y (laws.compare x.0 y.0 x.1 y.1);
    before_irrefl = λ x. laws.irrefl x.0;
    before_trans = λ x y z. laws.trans x.0 y.0 z.0;
    before_⊕ = λ x y c b. rw (plus_comm c.0 x.0, plus_comm c.0 y.0) at (laws.shift c.0 x.0 y.0 c.1 x.1 y.1 b);
    rank = λ x. laws.rank (grade sizes x.0) x.0;
    rank_before = λ x y e b. rw (← e) (laws.rank_less (grade sizes x.0) x.0 y.0 x.1 y.1 (counts x (omega arith)) (counts y (omega arith)) b);
  }
