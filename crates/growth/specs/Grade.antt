-- One grade, in the theory: what the loops over the swaps and over the listed pairs keep, row by row.
-- Assumes nothing.
use Rattle.std.specs.Prelude.{ℕ, ◌<◌, ◌≡◌, List, ◌++◌, length, get_or}
use Rattle.terms.specs.Load.{grade}
use Rattle.terms.specs.Swaps.{◌∈◌, Swap}
use Rattle.terms.specs.Table.{Row}
use Rattle.laws.specs.Load.{join}
use Rattle.theory.specs.Kit.{Kit}
use Rattle.theory.specs.Rows.{Row as RowOf}
use Rattle.theory.specs.Settle.{nf}
use Rattle.theory.specs.Table.{Alike}
use Rattle.theory.specs.Critical.{New}
use Rattle.theory.specs.Grow.{Later, later_refl, later_trans}
use Rattle.theory.specs.Complete.{left_side, right_side}
use Rattle.pairs.specs.declared.Pair.{Pair}
use Rattle.bridge.specs.Instance.{Load}
use Rattle.bridge.specs.Rows.{plain_table}
use Rattle.growth.specs.Setting.{Setting, no_row, no_swap, KitOf, SheetOf, RelOf, alike_of}
use Rattle.growth.specs.Meets.{Apart, Grew}

module _ {bound : ℕ} {sizes : List ℕ} {sheet : List Swap} (weights : List ℕ) (s : Setting bound sizes sheet) (g : ℕ) (T₀ : List (RowOf (Load 12))) where
  abbrev K : Kit
  K = KitOf weights s

  abbrev R : Load 12 → Load 12 → Type 0
  R = RelOf weights s

  abbrev eqv : Alike K R
  eqv = alike_of weights s

  -- rows were added to N so that the table is U, and J holds of them
  pub record Grows (N : List (RowOf (Load 12))) (U : List Row) (J : List (RowOf (Load 12)) → Type 0) : Type 0 where
    pub rows : List (RowOf (Load 12))
    pub is : plain_table (T₀ ++ rows) ≡ U
    pub later : Later K R eqv g T₀ N rows
    pub apart : Apart weights s g T₀ (T₀ ++ rows)
    pub so : J rows

  pub grows_none : (N : List (RowOf (Load 12))) (U : List Row) (J : List (RowOf (Load 12)) → Type 0) → plain_table (T₀ ++ N) ≡ U → New K R g T₀ N → Apart weights s g T₀ (T₀ ++ N) → J N → Grows N U J
  grows_none N U J e new a j = record { rows = N; is = e; later = later_refl K R eqv g T₀ new; apart = a; so = j }

  pub grows_map : (N : List (RowOf (Load 12))) (U : List Row) (J J' : List (RowOf (Load 12)) → Type 0) → ((M : List (RowOf (Load 12))) → New K R g T₀ M → J M → J' M) → Grows N U J → Grows N U J'
  grows_map N U J J' f w = record { rows = w.rows; is = w.is; later = w.later; apart = w.apart; so = f w.rows w.later.new w.so }

  -- one more pair of loads is joined
  pub grows_more :
      (N : List (RowOf (Load 12))) (U W : List Row) (J J' : List (RowOf (Load 12)) → Type 0) (x y : Load 12) (w : Grows N U J)
      → Grew weights s g T₀ w.rows w.later.new W x y
      → ((M O : List (RowOf (Load 12))) → Later K R eqv g T₀ M O → J M → nf K (T₀ ++ O) x ≡ nf K (T₀ ++ O) y → J' O)
      → Grows N W J'
  grows_more N U W J J' x y w h f = record {
    rows = h.rows;
    is = h.is;
    later = later_trans K R eqv g T₀ w.later h.later;
    apart = h.apart;
    so = f w.rows h.rows h.later w.so h.joined;
  }

  -- ---- what is joined

  -- the first k swaps of this grade
  abbrev pub SwapsJoined : ℕ → List (RowOf (Load 12)) → Type 0
  SwapsJoined k M =
      (i : ℕ) → i < k → grade sizes (get_or (SheetOf weights s) i no_swap).0.0 ≡ g
      → nf K (T₀ ++ M) (get_or (SheetOf weights s) i no_swap).0 ≡ nf K (T₀ ++ M) (get_or (SheetOf weights s) i no_swap).1

  -- the loads that rows p and j make of the least load that holds both their heads settle alike
  unfoldable pub AlikeMade : List (RowOf (Load 12)) → ℕ → ℕ → Type 0
  AlikeMade M p j =
      nf K (T₀ ++ M) (left_side K R eqv g T₀ (get_or T₀ p no_row) (get_or T₀ j no_row)) ≡ nf K (T₀ ++ M) (right_side K R eqv g T₀ (get_or T₀ p no_row) (get_or T₀ j no_row))

  -- the grade of that least load
  abbrev pub common_grade : ℕ → ℕ → ℕ
  common_grade p j = grade sizes (join (get_or T₀ p no_row).head.0 (get_or T₀ j no_row).head.0)

  -- the pairs on the list, as far as their least common load is of this grade
  abbrev pub PairsJoined : List Pair → List (RowOf (Load 12)) → Type 0
  PairsJoined list M = (a : Pair) → a ∈ list → a.first < a.second → a.second < length T₀ → common_grade a.first a.second ≡ g → AlikeMade M a.first a.second
