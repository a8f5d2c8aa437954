-- From grade to grade: the start, grades without work, no room, and the finished table.
-- Assumes nothing.
use Rattle.std.specs.Prelude.{ℕ, zero, suc, ◌+◌, ◌≤◌, ◌<◌, ◌≡◌, refl, List, [], ◌++◌, Bool, true, false, length, get_or, leb}
use Rattle.std.proofs.Common.{ap, ap₂, sym, subst, ◌∙◌, arith, le-leb}
use mathlib.Core.List.Memᴰ
use Rattle.terms.specs.Load.{grade}
use Rattle.terms.specs.Table.{Row, Finished}
use Rattle.terms.specs.Swaps.{◌∈◌, Swap, Reaches}
use Rattle.theory.specs.Kit.{Kit}
use Rattle.theory.specs.Unique.{Sorted.none}
use Rattle.theory.proofs.Loop.{grade_skip}
use Rattle.pairs.specs.Pairs.{common, Listed, PairList}
use Rattle.pairs.specs.declared.Pair.{Pair}
use Rattle.bridge.specs.Instance.{Load}
use Rattle.bridge.specs.Sheet.{sheet_finished, found_no_more}
use Rattle.rack.specs.Racked.{costs_of}
use Rattle.growth.specs.Setting.{no_row, no_swap, swap_of, KitOf, SheetOf, alike_of, even_of, sheet_long, table_long, left_is}
use Rattle.growth.specs.End.{covered_of, common_is}
use Rattle.growth.specs.State.{stamp, pick, Working, AtGrade, Within, NoRoomFor}

-- a stamp within the bound is the grade
pub stamp_grade : (bound g h : ℕ) → 1 ≤ h → h ≤ bound → stamp bound g ≡ h → g ≡ h
stamp_grade bound g h l m e = go (leb g bound) refl
  where
    go : (t : Bool) → leb g bound ≡ t → g ≡ h
    go true d = ap (λ b. pick b g 0) (sym d) ∙ e
    go false d = absurd (omega (arith, ap (λ b. pick b g 0) (sym d) ∙ e))

pub grade_stamp : (bound g h : ℕ) → h ≤ bound → g ≡ h → stamp bound g ≡ h
grade_stamp bound g h m e = ap (λ b. pick b g 0) (le-leb g bound (omega arith)) ∙ e

module _ {bound : ℕ} {sizes weights : List ℕ} {sheet : List Swap} {stamps : List ℕ} (w : Working bound sizes weights sheet stamps) where
  abbrev K : Kit
  K = KitOf weights w.setting

  -- below grade 1 there is the empty load alone, and it is settled
  pub at_first : AtGrade w 1 []
  at_first = record {
    all = [];
    is = refl;
    right = record {
      heads = λ a m. absurd (Memᴰ.not-nil m);
      sound = λ a m. absurd (Memᴰ.not-nil m);
      tails = λ a m. absurd (Memᴰ.not-nil m);
      complete = λ h p. absurd (p.unsettled (λ y r b.
          let q : Kit.grade K h ≡ Kit.grade K y = (alike_of weights w.setting).rel_grade h y r in
          let e : h ≡ y = Kit.grade_zero K h (omega (arith, p.under)) ∙ sym (Kit.grade_zero K y (omega (arith, p.under, q))) in
          Kit.before_irrefl K y (subst (λ (z : Load 12). Kit.before K y z) e b)));
    };
    order = none;
  }

  -- nothing is due at grade g: no swap and no entered pair has it
  pub record Idle (g : ℕ) (list : List Pair) : Type 0 where
    pub no_swap_due : 1 ≤ g → (k : ℕ) → k < length sheet → get_or stamps k 0 ≡ g → ⊥
    pub no_pair_due : (a : Pair) → a ∈ list → a.due ≡ g → ⊥

  module _ (T : List Row) (list : List Pair) (entered : PairList bound sizes T (length T) list) where
    pub skip_one : (g : ℕ) → 1 ≤ g → g ≤ bound → Idle g list → AtGrade w g T → AtGrade w (suc g) T
    skip_one g l m idle at = record {
      all = at.all;
      is = at.is;
      right = grade_skip K (SheetOf weights w.setting) (even_of weights w.setting) g bound m at.all no_row no_swap (Listed list) at.right
          (covered_of weights w.setting at.all T at.is list entered) no_swaps no_pairs;
      order = at.order;
    }
      where
        no_swaps : (k : ℕ) → k < length (SheetOf weights w.setting) → ¬ (grade sizes (get_or (SheetOf weights w.setting) k no_swap).0.0 ≡ g)
        no_swaps k q e =
            let k< : k < length sheet = rw (sheet_long weights w.setting) at q in
            idle.no_swap_due l k k< (w.stamped k k< ∙ grade_stamp bound (grade sizes (swap_of sheet k).left) g m (ap (grade sizes) (sym (left_is weights w.setting k)) ∙ e))

        no_pairs : (p j : ℕ) → p < j → j < length at.all → Listed list p j → ¬ (Kit.grade K (Kit.join K (get_or at.all p no_row).head (get_or at.all j no_row).head) ≡ g)
        no_pairs p j l m (a, n, q, r) e =
            idle.no_pair_due a n ((entered.entries a n).graded ∙ ap₂ (λ x y. grade sizes (common T x y)) q r ∙ ap (grade sizes) (sym (common_is weights w.setting at.all T at.is p j)) ∙ e)

    -- and so to any grade before which nothing is due
    pub skip_to : (d g : ℕ) → 1 ≤ g → d + g ≤ suc bound → ((h : ℕ) → g ≤ h → h < d + g → Idle h list) → AtGrade w g T → AtGrade w (d + g) T
    skip_to zero g l m idle at = subst (λ (k : ℕ). AtGrade w k T) (omega arith) at
    skip_to (suc d) g l m idle at =
        subst (λ (k : ℕ). AtGrade w k T) (omega arith)
        (skip_to d (suc g) (omega arith) (omega arith) (λ h a b. idle h (omega arith) (omega arith)) (skip_one g l (omega arith) (idle g (omega arith) (omega arith)) at))

  -- at the end the table is finished
  pub finished_at : (T : List Row) → AtGrade w (suc bound) T → Finished 12 bound sizes (costs_of weights) (Reaches sheet) T
  finished_at T at =
      subst (Finished 12 bound sizes (costs_of weights) (Reaches sheet)) at.is
      (sheet_finished (costs_of weights) w.setting.kit sheet w.setting.sheet bound at.all record { rows = at.right; order = at.order })

-- rows found within a grade are no more than the finished table's
pub no_room_for : {weights : List ℕ} {sheet : List Swap} {stamps : List ℕ} {g : ℕ} {U : List Row} (room : ℕ) (w : Within weights sheet stamps g U) → room < length U → NoRoomFor w.bound w.sizes weights sheet room
no_room_for {weights} {sheet} {g = g} {U = U} room w l T f =
    omega (arith, table_long (w.low ++ w.fresh) U w.is, found_no_more (costs_of weights) w.working.setting.kit sheet w.working.setting.sheet w.bound g w.bounded w.low w.fresh w.new w.apart T f)
