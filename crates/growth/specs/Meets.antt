-- Joining two loads, in the theory: where they do not meet, the later one is a new head.
-- Assumes nothing.
use Rattle.std.specs.Prelude.{ℕ, ◌≡◌, refl, List, [], ◌∷◌, ◌++◌, length}
use Rattle.std.proofs.Common.{ap, sym, subst, ◌∙◌, append_assoc}
use Rattle.std.proofs.lemmas.List.{map-append}
use Rattle.terms.specs.Load.{grade}
use Rattle.terms.specs.Order.{Before}
use Rattle.terms.specs.Swaps.{Step, Swap}
use Rattle.terms.specs.Table.{Row}
use Rattle.terms.specs.Settling.{NoneFits}
use Rattle.laws.specs.Order.{before_laws}
use Rattle.theory.specs.Kit.{Kit}
use Rattle.theory.specs.Rows.{Row as RowOf, row, Irr}
use Rattle.theory.specs.Settle.{nf}
use Rattle.theory.specs.Critical.{New}
use Rattle.theory.specs.Grow.{Meet, meet_start, meet_swap, meet_step, meet_done, meet_left, meet_right, Later, later_refl}
use Rattle.theory.specs.Room.{apart_push}
use Rattle.theory.specs.Unique.{Sorted}
use Rattle.bridge.specs.Instance.{Load, load_path, sum}
use Rattle.bridge.specs.Rows.{plain, plain_table}
use Rattle.bridge.specs.Reach.{step_up}
use Rattle.bridge.specs.Settling.{first_up, none_up}
use Rattle.laws.specs.Strides.{Walks, Walks.stop, Walks.more}
use Rattle.rack.specs.Racked.{costs_of}
use Rattle.growth.specs.Setting.{Setting, KitOf, RelOf, alike_of}

abbrev pub row_of : List ℕ → List ℕ → Row
row_of h t = record { head = h; tail = t }

-- x and y walk by the table's first rows, and meet, or the later one that no row fits is put at the end with the other as its tail
pub data Meets (weights : List ℕ) (T : List Row) (x y : List ℕ) (U : List Row) : Type 0 where
  met : (z : List ℕ) → Walks T x z → Walks T y z → U ≡ T → Meets weights T x y U
  new_first : (u v : List ℕ) → Walks T x u → Walks T y v → Before (costs_of weights) v u → NoneFits T u → U ≡ T ++ row_of u v ∷ [] → Meets weights T x y U
  new_second : (u v : List ℕ) → Walks T x u → Walks T y v → Before (costs_of weights) u v → NoneFits T v → U ≡ T ++ row_of v u ∷ [] → Meets weights T x y U

module _ {bound : ℕ} {sizes : List ℕ} {sheet : List Swap} (weights : List ℕ) (s : Setting bound sizes sheet) (g : ℕ) (T₀ : List (RowOf (Load 12))) where
  abbrev K : Kit
  K = KitOf weights s

  abbrev R : Load 12 → Load 12 → Type 0
  R = RelOf weights s

  -- no two rows share a head
  abbrev pub Apart : List (RowOf (Load 12)) → Type 0
  Apart = Sorted (λ (a b : RowOf (Load 12)). ¬ (a.head ≡ b.head))

  module _ (N : List (RowOf (Load 12))) (new : New K R g T₀ N) where
    -- the left side walks
    walks_meet : {x₀ y₀ y : Load 12} {x u : List ℕ} → Walks (plain_table (T₀ ++ N)) x u → (e : length x ≡ 12) → Meet K R (alike_of weights s) g T₀ N new x₀ y₀ (x, e) y
        → (f : length u ≡ 12) × Meet K R (alike_of weights s) g T₀ N new x₀ y₀ (u, f) y
    walks_meet {x₀} {y₀} {y} {x} {u} (stop d) e m =
        let f : length u ≡ 12 = ap length (sym d) ∙ e in
        let q : ◌≡◌ {A = Load 12} (x, e) (u, f) = load_path d in
        (f, subst (λ (w : Load 12). Meet K R (alike_of weights s) g T₀ N new x₀ y₀ w y) q m)
    walks_meet {x₀} {y₀} {y} {x} (more {y = z} b fit st r) e m =
        let t = first_up 12 sizes s.kit.of_sizes s.kit.from_one (costs_of weights) (before_laws (costs_of weights) 12) (x, e) (T₀ ++ N) fit in
        let a : RowOf (Load 12) = t.0 in
        let st' : Step a.head.0 a.tail.0 x z = subst (λ (c : Row). Step c.head c.tail x z) (sym t.2) st in
        let v = step_up a.head a.tail (x, e) st' in
        let w : Load 12 = sum a.tail v.0 in
        let k : length z ≡ 12 = ap length (sym v.2) ∙ w.1 in
        let q : w ≡ (z, k) = load_path v.2 in
        walks_meet r k (subst (λ (o : Load 12). Meet K R (alike_of weights s) g T₀ N new x₀ y₀ o y) q (meet_step K R (alike_of weights s) g T₀ N new t.1 v.0 v.1 m))

    -- what the new table is: rows were added, no two share a head, and x and y settle alike
    pub record Grew (U : List Row) (x y : Load 12) : Type 0 where
      pub rows : List (RowOf (Load 12))
      pub is : plain_table (T₀ ++ rows) ≡ U
      pub later : Later K R (alike_of weights s) g T₀ N rows
      pub apart : Apart (T₀ ++ rows)
      pub joined : nf K (T₀ ++ rows) x ≡ nf K (T₀ ++ rows) y

    module _ (ap₀ : Apart (T₀ ++ N)) (x y : Load 12) (q : grade sizes x.0 ≡ g) (r : R x y) where
      both_walk : {u v : List ℕ} → Walks (plain_table (T₀ ++ N)) x.0 u → Walks (plain_table (T₀ ++ N)) y.0 v
          → (e : length u ≡ 12) × (f : length v ≡ 12) × Meet K R (alike_of weights s) g T₀ N new x y (u, e) (v, f)
      both_walk {u} {v} p o =
          let m = walks_meet p x.1 (meet_start K R (alike_of weights s) g T₀ N new x y q r) in
          let m' = walks_meet o y.1 (meet_swap K R (alike_of weights s) g T₀ N new m.1) in
          (m.0, m'.0, meet_swap K R (alike_of weights s) g T₀ N new m'.1)

      -- u, that no row fits, is put in with v as its tail
      grew : (U : List Row) (u v : Load 12) → Irr K (T₀ ++ N) u → Later K R (alike_of weights s) g T₀ N (N ++ row u v ∷ []) × (nf K (T₀ ++ (N ++ row u v ∷ [])) x ≡ nf K (T₀ ++ (N ++ row u v ∷ [])) y) → U ≡ plain_table (T₀ ++ N) ++ row_of u.0 v.0 ∷ [] → Grew U x y
      grew U u v irr o e =
          let assoc : (T₀ ++ N) ++ row u v ∷ [] ≡ T₀ ++ (N ++ row u v ∷ []) = append_assoc T₀ N (row u v ∷ []) in
          record {
            rows = N ++ row u v ∷ [];
            is = ap plain_table (sym assoc) ∙ map-append plain (T₀ ++ N) (row u v ∷ []) ∙ sym e;
            later = o.0;
            apart = subst Apart assoc (apart_push K R (alike_of weights s) (T₀ ++ N) u v irr ap₀);
            joined = o.1;
          }

      irr_of : (u : Load 12) → NoneFits (plain_table (T₀ ++ N)) u.0 → Irr K (T₀ ++ N) u
      irr_of u i = none_up 12 sizes s.kit.of_sizes s.kit.from_one (costs_of weights) (before_laws (costs_of weights) 12) (T₀ ++ N) u i

      pub meets_grew : {U : List Row} → Meets weights (plain_table (T₀ ++ N)) x.0 y.0 U → Grew U x y
      meets_grew (met z p o e) =
          let b = both_walk p o in
          record {
            rows = N;
            is = sym e;
            later = later_refl K R (alike_of weights s) g T₀ new;
            apart = ap₀;
            joined = meet_done K R (alike_of weights s) g T₀ N new b.2 (load_path refl);
          }
      meets_grew {U} (new_first u v p o b i e) =
          let w = both_walk p o in
          let irr = irr_of (u, w.0) i in
          grew U (u, w.0) (v, w.1) irr (meet_left K R (alike_of weights s) g T₀ N new q w.2 b irr) e
      meets_grew {U} (new_second u v p o b i e) =
          let w = both_walk p o in
          let irr = irr_of (v, w.1) i in
          grew U (v, w.1) (u, w.0) irr (meet_right K R (alike_of weights s) g T₀ N new q w.2 b irr) e
