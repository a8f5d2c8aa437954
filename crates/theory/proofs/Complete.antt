-- There is a finished table for each grade: `specs/Complete` has the steps, this file the grades and the sheets.
use Rattle.std.specs.Prelude.{ℕ, zero, suc, ◌≡◌, List, [], ◌++◌}
use Rattle.std.proofs.Common.{sym, ◌∙◌, ⊎_elim}
use Rattle.theory.specs.Kit.{Kit}
use Rattle.theory.specs.Rows.{◌∈◌, Row}
use Rattle.theory.specs.Settle.{nf}
use Rattle.theory.specs.Table.{Alike, Table}
use Rattle.theory.specs.Critical.{Grown, grown_table}
use Rattle.theory.specs.Chain.{joined_sides}
use Rattle.theory.specs.Reach.{Reach, Either}
use Rattle.theory.specs.Grow.{Later, new_none}
use Rattle.theory.specs.Tails.{told, told_retail, told_irr, retail_grown}
use Rattle.theory.specs.Complete.{table_zero, each, PairDone, all_pairs, Source, GivenDone, given_step, Swap, Even, sheet_alike, sheet_source}
use Rattle.theory.proofs.Chain.{first_chain}

module _ (K : Kit) where
  open K use {L, grade}

  module _ (R E : L → L → Type 0) (eqv : Alike K R) (src : Source K R E) where
    open eqv use {rel_grade}

    module _ (g : ℕ) (T₀ : List (Row L)) (t : Table K R g T₀) where
      unfoldable pub next_grade : (N : List (Row L)) × Table K R (suc g) (T₀ ++ N)
      next_grade = (told K R eqv g T₀ M, grown_table K R E eqv g T₀ (told K R eqv g T₀ M) grown)
        where
          s : (M : List (Row L)) × Later K R eqv g T₀ [] M × ((p : L × L) → p ∈ src.agenda g → GivenDone K R E eqv src g T₀ t M p)
          s = each K R eqv g T₀ (GivenDone K R E eqv src g T₀ t) (λ N M p l d q m. l.stay p.0 p.1 q (sym (rel_grade p.0 p.1 (src.agenda_rel g p m)) ∙ q) (d q m)) (src.agenda g) (given_step K R E eqv src g T₀ t) [] (new_none K R eqv g T₀ t)

          c : (M : List (Row L)) × Later K R eqv g T₀ s.0 M × ((a : Row L) → a ∈ T₀ → (b : Row L) → b ∈ T₀ → PairDone K R eqv g T₀ M a b)
          c = all_pairs K R eqv g T₀ s.0 s.1.new

          M : List (Row L)
          M = c.0

          listed : (p : L × L) → p ∈ src.agenda g → grade p.0 ≡ g → nf K (T₀ ++ M) p.0 ≡ nf K (T₀ ++ M) p.1
          listed p m q = c.1.stay p.0 p.1 q (sym (rel_grade p.0 p.1 (src.agenda_rel g p m)) ∙ q) (s.2 p m q m)

          given_done : (x y : L) → grade x ≡ g → E x y → nf K (T₀ ++ M) x ≡ nf K (T₀ ++ M) y
          given_done x y q e =
              ⊎_elim (λ (m : ◌∈◌ {A = L × L} (x, y) (src.agenda (grade x))). listed (x, y) (rw q at m) q) (λ (m : ◌∈◌ {A = L × L} (y, x) (src.agenda (grade x))). sym (listed (y, x) (rw q at m) (sym (rel_grade x y (src.given_rel x y e)) ∙ q))) (src.covers x y e)

          grown : Grown K R E g T₀ (told K R eqv g T₀ M)
          grown =
              retail_grown K R eqv g T₀ M (told K R eqv g T₀ M) c.1.new (told_retail K R eqv g T₀ M c.1.new) (told_irr K R eqv g T₀ M c.1.new) E src.given_rel (λ x y q r. src.made x y r) given_done
              (first_chain K g T₀ (T₀ ++ M) (λ a b m n d j q f. joined_sides K (T₀ ++ M) a b (c.2 a m b n q)))

    -- There is a table for each grade.
    unfoldable pub some_table : (g : ℕ) → (T : List (Row L)) × Table K R g T
    some_table zero = ([], table_zero K R eqv)
    some_table (suc g) =
        let t : (T : List (Row L)) × Table K R g T = some_table g in
        let n : (N : List (Row L)) × Table K R (suc g) (t.0 ++ N) = next_grade g t.0 t.1 in
        (t.0 ++ n.0, n.1)

  unfoldable pub sheet_table : (sheet : List (L × L)) → Even K sheet → (g : ℕ) → (T : List (Row L)) × Table K (Reach K (Swap K sheet)) g T
  sheet_table sheet even g = some_table (Reach K (Swap K sheet)) (Either K (Swap K sheet)) (sheet_alike K sheet even) (sheet_source K sheet even) g
