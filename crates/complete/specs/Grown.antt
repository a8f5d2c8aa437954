-- The kit completed as one of 12 kinds, by weight: what its rows, cut back to n counts a side, are.
-- Assumes nothing.
use Rattle.std.specs.Prelude.{ℕ, ◌≤◌, ◌<◌, ◌≡◌, List, map, length, get_or, ℤ, pos, Ok}
use Rattle.std.proofs.Common.{sym, ap, subst, ◌∙◌, inr, arith, le-leb}
use Rattle.std.proofs.lemmas.Bool.{lt-leb}
use Rattle.std.proofs.lemmas.List.{length-map}
use Rattle.terms.specs.Load.{grade}
use Rattle.terms.specs.Swaps.{Swap, Reaches}
use Rattle.terms.specs.Table.{Row, Finished}
use Rattle.terms.specs.Flat.{left_at, right_at, numbered, swap_at, rows_lent, sheet_of, filled}
use Rattle.laws.specs.Load.{all_map}
use Rattle.laws.specs.Numbered.{numbered_long, numbered_map, item_at}
use Rattle.padding.specs.Widen.{widen, widen_sizes, widen_swap, widen_row, weights, resize_row}
use Rattle.padding.specs.Kinds.{weights_long}
use Rattle.padding.specs.Padded.{wide_sizes_fine, wide_kit, wide_swaps}
use Rattle.padding.proofs.Padded.{widened_finished, cut_finished}
use Rattle.growth.specs.Setting.{swap_of}
use Rattle.growth.specs.State.{stamp, Working, AllDone}
use Rattle.grades.specs.declared.Stamped.{Stamped as Held}
use Rattle.grades.specs.Stamped.{as_swap, as_sheet, stamps_of}
use Rattle.complete.specs.Call.{IsFinished, HasRoom, Finishing}
use Rattle.complete.specs.Passed.{Fit}
use Rattle.complete.specs.One.{finished_some, finished_one}

-- the stamps of the swaps of 12 kinds
abbrev pub Stamped : ℕ → List ℕ → List Swap → List ℕ → Type 0
Stamped bound sizes sheet stamps = (k : ℕ) → k < length sheet → get_or stamps k 0 ≡ stamp bound (grade sizes (swap_of sheet k).left)

-- two loads of n counts as a swap of 12 kinds with its stamp, and so swap k of a lent sheet
abbrev pub stamped_of : ℕ → ℕ → List ℕ → List ℕ → List ℕ → Held
stamped_of n bound sizes x y = record { left = widen n x; right = widen n y; stamp = stamp bound (grade sizes (widen n x)) }

abbrev pub stamped_at : ℕ → ℕ → List ℕ → List ℕ → ℕ → Held
stamped_at n bound sizes swaps k = stamped_of n bound sizes (left_at n swaps k) (right_at n swaps k)

pub stamp_over : (bound g : ℕ) → bound < g → 0 ≡ stamp bound g
stamp_over bound g l = rw (lt-leb g bound l)

pub stamp_within : (bound g : ℕ) → g ≤ bound → g ≡ stamp bound g
stamp_within bound g l = rw (le-leb g bound l)

-- where the room is enough, the rows cut back are the finished table; else no finished table has room
pub record Grown (n bound : ℕ) (sizes : List ℕ) (costs : List ℤ) (swaps : List ℕ) (room : ℕ) (U : List Row) : Type 0 where
  pub finished : length U ≤ room → IsFinished n bound sizes costs swaps (map (resize_row n) U)
  pub full : room < length U → (T : List Row) → IsFinished n bound sizes costs swaps T → room < length T

abbrev FinishedOf : ℕ → List Row → List ℕ → List ℕ → List Swap → Type 0
FinishedOf bound U sizes ws sheet = Finished 12 bound sizes (map pos ws) (Reaches sheet) U

-- the same kit and sheet, the same finished tables
same_kit : (bound : ℕ) (U : List Row) {ss ss' ws ws' : List ℕ} {sheet sheet' : List Swap} → ss ≡ ss' → ws ≡ ws' → sheet ≡ sheet' → FinishedOf bound U ss ws sheet → FinishedOf bound U ss' ws' sheet'
same_kit bound U {ss} {ss'} {ws} {ws'} {sheet} {sheet'} e f g h =
    subst (λ (l : List ℕ). FinishedOf bound U l ws' sheet') e (subst (λ (l : List ℕ). FinishedOf bound U ss l sheet') f (subst (FinishedOf bound U ss ws) g h))

-- ---- the swaps with their stamps

module _ (n bound : ℕ) (sizes swaps : List ℕ) where
  abbrev all_stamped : List Held
  all_stamped = numbered (stamped_at n bound sizes swaps) 0 (rows_lent n swaps)

  -- are the lent sheet widened
  pub sheet_widened : as_sheet all_stamped ≡ map (widen_swap n) (sheet_of n swaps)
  sheet_widened =
      numbered_map as_swap (stamped_at n bound sizes swaps) 0 (rows_lent n swaps) ∙ sym (numbered_map (widen_swap n) (swap_at n swaps) 0 (rows_lent n swaps))

  sheet_long : length (as_sheet all_stamped) ≡ rows_lent n swaps
  sheet_long = length-map all_stamped as_swap ∙ numbered_long (stamped_at n bound sizes swaps) 0 (rows_lent n swaps)

  pub stamps_long : length (stamps_of all_stamped) ≡ length (as_sheet all_stamped)
  stamps_long = length-map all_stamped (λ s. s.stamp) ∙ sym (length-map all_stamped as_swap)

  -- and have its stamps
  pub sheet_stamped : Stamped bound sizes (as_sheet all_stamped) (stamps_of all_stamped)
  sheet_stamped k l =
      let h : k < rows_lent n swaps = omega (arith, l, sheet_long) in
      let at = stamped_at n bound sizes swaps in
      ap (λ (x : List ℕ). get_or x k 0) (numbered_map (λ s. s.stamp) at 0 (rows_lent n swaps))
      ∙ item_at (λ i. (at i).stamp) 0 (rows_lent n swaps) k h
      ∙ ap (λ (s : Swap). stamp bound (grade sizes s.left)) (sym (ap (λ (x : List Swap). swap_of x k) (numbered_map as_swap at 0 (rows_lent n swaps)) ∙ item_at (λ i. as_swap (at i)) _ (rows_lent n swaps) k h))

module _ {n bound : ℕ} {sizes : List ℕ} {costs : List ℤ} {swaps : List ℕ} (fit : Fit n bound sizes costs swaps) where
  -- what was made for the 12 kinds is the kit widened
  module _ (wide ws : List ℕ) (sheet : List Swap) (e : wide ≡ widen_sizes n sizes) (f : ws ≡ weights n sizes costs) (g : sheet ≡ map (widen_swap n) (sheet_of n swaps)) where
    pub working : (stamps : List ℕ) → length stamps ≡ length sheet → Stamped bound wide sheet stamps → Working bound wide ws sheet stamps
    working stamps long at = record {
      setting = record {
        kit = rw e (wide_kit fit.kit fit.sheet bound);
        small = fit.bounded.1;
        sheet = rw (g, e) (wide_swaps fit.kit fit.sheet bound);
      };
      sizes_up = rw e (all_map (λ s h. h.1) (widen_sizes n sizes) (wide_sizes_fine fit.kit fit.sheet bound));
      weighed = rw f (weights_long n sizes costs fit.kit);
      stamps_long = long;
      stamped = at;
    }

    pub grown : (room : ℕ) (U : List Row) → AllDone bound wide ws sheet room U → Grown n bound sizes costs swaps room U
    grown room U done = record {
      finished = λ l. cut_finished fit.kit fit.sheet bound U (same_kit bound U e f g (done.finished l));
      full = λ l T h.
          let m = done.full l (map (widen_row n) T) (same_kit bound (map (widen_row n) T) (sym e) (sym f) (sym g) (widened_finished fit.kit fit.sheet bound h)) in
          omega (arith, m, length-map T (widen_row n));
    }

  -- ---- what it means for the call

  module _ (rules : List ℕ) (U : List Row) (grew : Grown n bound sizes costs swaps (rows_lent n rules) U) where
    pub none_fits : rows_lent n rules < length U → HasRoom n bound sizes costs swaps rules → ⊥
    none_fits l room =
        let t = finished_some fit in
        omega (arith, room t.0 t.1, grew.full l t.0 t.1)

    abbrev cut : List Row
    cut = map (resize_row n) U

    cut_long : length cut ≡ length U
    cut_long = length-map U (resize_row n)

    pub all_fit : length U ≤ rows_lent n rules → (out : List ℕ) → out ≡ filled (length rules) (map (resize_row n) U) → Finishing n bound sizes costs swaps rules (Ok (length U), out)
    all_fit l out e =
        let done = grew.finished l in
        inr (λ V f. omega (arith, ap length (finished_one fit f done), cut_long), (cut, done, ap Ok (sym cut_long), e))
