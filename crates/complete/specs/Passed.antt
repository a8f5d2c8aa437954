-- What the tests of what is lent show where all are passed: a kit and a sheet as the theorems ask.
-- Assumes nothing.
use Rattle.std.specs.Prelude.{ℕ, ◌*◌, ◌≤◌, ◌<◌, ◌≡◌, List, length, ℤ, Result, Ok}
use Rattle.std.proofs.Common.{sym, ap, subst, arith}
use Rattle.terms.specs.declared.Refused.{Refused}
use Rattle.terms.specs.declared.Refusal.{Refusal}
use Rattle.terms.specs.Limits.{KindsFine, BoundFine, most_swaps, most_rows}
use Rattle.terms.specs.Swaps.{Swap}
use Rattle.terms.specs.Flat.{swap_at, rows_lent, sheet_of}
use Rattle.terms.specs.Outcome.{Outcome}
use Rattle.terms.specs.Answers.{refuse}
use Rattle.laws.specs.Outcome.{AllHold, Never, passed, never_turns, turns_hold}
use Rattle.laws.specs.Load.{all_map}
use Rattle.laws.specs.Numbered.{in_numbered}
use Rattle.laws.specs.Flat.{row_in, left_long, right_long}
use Rattle.bridge.specs.Rows.{IsSwap, IsSheet}
use Rattle.bridge.specs.Regular.{IsKit}
use Rattle.loads.specs.Lent.{Lent}
use Rattle.padding.specs.Widen.{FineKit}
use Rattle.complete.specs.Call.{swap_tests, input_tests}

-- a kit, a bound and a sheet that have passed
pub record Fit (n bound : ℕ) (sizes : List ℕ) (costs : List ℤ) (swaps : List ℕ) : Type 0 where
  pub kinds : KindsFine n
  pub bounded : BoundFine bound
  pub kit : FineKit n sizes costs
  pub lent : Lent n most_swaps swaps
  pub sheet : IsSheet n sizes (sheet_of n swaps)

-- each row of a table that was lent lies in it
pub rows_lie : (n : ℕ) (flat : List ℕ) → rows_lent n flat * (2 * n) ≡ length flat → rows_lent n flat * (2 * n) ≤ length flat
rows_lie n flat e = omega arith

-- the theorems' kit
pub fine_kit : {n : ℕ} {sizes : List ℕ} {costs : List ℤ} → FineKit n sizes costs → IsKit n sizes
fine_kit {sizes = sizes} fine =
    record { of_sizes = fine.sized; from_one = all_map (λ s h. h.0) sizes fine.sizes_fine }

-- no refusal is a number of rows
pub refused_not_rows : (k : ℕ) (why : Refusal) (place : ℕ) → ◌≡◌ {A = Result ℕ Refused} (Ok k) (refuse why place) → ⊥
refused_not_rows k why place e = let z : ◌≡◌ {A = ℕ} 0 1 = cc in omega arith

module _ (n bound : ℕ) (sizes : List ℕ) (costs : List ℤ) (swaps rules : List ℕ) where
  -- where each swap has passed, the sheet is one
  is_sheet : rows_lent n swaps * (2 * n) ≡ length swaps → ((i : ℕ) → i < rows_lent n swaps → AllHold (swap_tests {A = ℕ} n sizes swaps rules i)) → IsSheet n sizes (sheet_of n swaps)
  is_sheet whole hold s m =
      let t = in_numbered (swap_at n swaps) (rows_lent n swaps) m in
      let i : ℕ = t.0 in
      let lies = row_in n (rows_lent n swaps) i (length swaps) t.1 (rows_lie n swaps whole) in
      subst (λ (u : Swap). IsSwap n sizes u) (sym t.2) (record { of_left = left_long n swaps i lies; of_right = right_long n swaps i lies; even = (hold i t.1).1.0 })

  pub fit_of : AllHold (input_tests {A = ℕ} n bound sizes costs swaps rules) → Fit n bound sizes costs swaps
  fit_of h =
      let lengths = h.1.1.0 in
      record {
        kinds = h.0;
        bounded = h.1.0;
        kit = record { few = h.0.1; sized = lengths.sizes_long; costed = lengths.costs_long; sizes_fine = h.1.1.1.0; costs_fine = h.1.1.1.1.0 };
        lent = lengths.sheet;
        sheet = is_sheet lengths.sheet.whole (turns_hold (rows_lent n swaps) (swap_tests {A = ℕ} n sizes swaps rules) h.1.1.1.1.1);
      }

  pub table_lent : AllHold (input_tests {A = ℕ} n bound sizes costs swaps rules) → Lent n most_rows rules
  table_lent h = h.1.1.0.table

  -- ---- the answer that no test of what is lent gives

  differs : (k : ℕ) (why : Refusal) (place : ℕ) → ◌≡◌ {A = Result ℕ Refused × List ℕ} (Ok k, rules) (refuse why place, rules) → ⊥
  differs k why place e = refused_not_rows k why place (ap (λ (o : Result ℕ Refused × List ℕ). o.0) e)

  never_rows : (k : ℕ) → Never (Ok k, rules) (input_tests n bound sizes costs swaps rules)
  never_rows k = (differs k _ _, (differs k _ _, (differs k _ _, (differs k _ _, (differs k _ _, never_turns (Ok k, rules) (rows_lent n swaps) (swap_tests {A = ℕ} n sizes swaps rules) (λ i. (differs k _ _, (differs k _ _, tt))))))))

  pub all_passed : (accepted : Result ℕ Refused × List ℕ → Type 0) (k : ℕ) → Outcome accepted (input_tests n bound sizes costs swaps rules) (Ok k, rules) → AllHold (input_tests {A = ℕ} n bound sizes costs swaps rules)
  all_passed accepted k = passed accepted (input_tests n bound sizes costs swaps rules) (Ok k, rules) (never_rows k)
