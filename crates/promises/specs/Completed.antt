-- What is known of a rule table that complete accepted, as it left it: the way to the promises.
-- Assumes nothing.
use Rattle.std.specs.Prelude.{ℕ, ◌*◌, ◌-◌, ◌/◌, ◌≤◌, ◌<◌, ◌≡◌, List, [], ◌∷◌, ◌++◌, length, ℤ, Result, Ok}
use Rattle.std.proofs.Common.{ap, sym, subst, ◌∙◌, arith, mul-le-mul_right, length-append}
use Rattle.std.proofs.lemmas.List.{length-replicate}
use Rattle.terms.specs.declared.Refused.{Refused}
use Rattle.terms.specs.declared.Refusal.{Refusal}
use Rattle.terms.specs.declared.Refusal.TheVariants.{OverBound}
use Rattle.terms.specs.Load.{grade, zeros}
use Rattle.terms.specs.Limits.{All}
use Rattle.terms.specs.Swaps.{Reaches}
use Rattle.terms.specs.Table.{Row}
use Rattle.terms.specs.Settling.{Proper}
use Rattle.terms.specs.Flat.{rows_lent, row_at, table_of, sheet_of, laid}
use Rattle.terms.specs.Outcome.{must, in_turn}
use Rattle.terms.specs.Answers.{refuse}
use Rattle.laws.specs.Outcome.{AllHold, Never, passed, taken, never_append, never_turns, append_hold, hold_append, hold_turns}
use Rattle.laws.specs.Load.{all_members}
use Rattle.laws.specs.Numbered.{numbered_in}
use Rattle.laws.specs.Flat.{Sides}
use Rattle.laws.specs.Laid.{laid_long, table_laid}
use Rattle.bridge.specs.Regular.{Regular, reaches_regular}
use Rattle.bridge.specs.Theorems.{finished_sides, finished_proper}
use Rattle.loads.specs.Lent.{Lent}
use Rattle.settle.specs.Ready.{Ready}
use Rattle.settle.specs.Call.{row_test, tests}
use Rattle.complete.specs.Call.{swap_tests, input_tests, IsFinished, room_test, tests as completeTests, Accepted, Completing}
use Rattle.complete.specs.Passed.{Fit, fit_of, fine_kit, table_lent}

-- ---- no refusal of complete answers with a number of rows

differs : {r : ℕ} {table rules : List ℕ} (why : Refusal) (place : ℕ) → ◌≡◌ {A = Result ℕ Refused × List ℕ} (Ok r, table) (refuse why place, rules) → ⊥
differs why place e = let z : ◌≡◌ {A = ℕ} 0 1 = cc (ap (λ (o : Result ℕ Refused × List ℕ). o.0) e) in omega arith

never_rows : (n bound : ℕ) (sizes : List ℕ) (costs : List ℤ) (swaps rules : List ℕ) (r : ℕ) (table : List ℕ) → Never (Ok r, table) (completeTests n bound sizes costs swaps rules)
never_rows n bound sizes costs swaps rules r table =
    never_append (Ok r, table) (input_tests n bound sizes costs swaps rules) (room_test n bound sizes costs swaps rules)
    (differs _ _, (differs _ _, (differs _ _, (differs _ _, (differs _ _, never_turns (Ok r, table) (rows_lent n swaps) (swap_tests n sizes swaps rules) (λ i. (differs _ _, (differs _ _, tt))))))))
    (differs _ _, tt)

-- ---- a table that complete accepted, as it left it

module _ {n bound : ℕ} {sizes : List ℕ} {costs : List ℤ} {swaps rules : List ℕ} {r : ℕ} {table : List ℕ} (c : Completing n bound sizes costs swaps rules (Ok r, table)) where
  hold : AllHold (input_tests {A = ℕ} n bound sizes costs swaps rules) × AllHold (room_test n bound sizes costs swaps rules)
  hold =
      append_hold (input_tests n bound sizes costs swaps rules) (room_test n bound sizes costs swaps rules)
      (passed (Accepted n bound sizes costs swaps rules) (completeTests n bound sizes costs swaps rules) (Ok r, table) (never_rows n bound sizes costs swaps rules r table) c)

  pub lent_fit : Fit n bound sizes costs swaps
  lent_fit = fit_of n bound sizes costs swaps rules hold.0

  pub reach_regular : Regular n sizes (Reaches (sheet_of n swaps))
  reach_regular = reaches_regular costs (fine_kit lent_fit.kit) (sheet_of n swaps) lent_fit.sheet

  accepted : Accepted n bound sizes costs swaps rules (Ok r, table)
  accepted =
      taken (Accepted n bound sizes costs swaps rules) (completeTests n bound sizes costs swaps rules) (Ok r, table)
      (hold_append (input_tests n bound sizes costs swaps rules) (room_test n bound sizes costs swaps rules) hold.0 hold.1) c

  abbrev T : List Row
  T = accepted.0

  rows_are : r ≡ length T
  rows_are = let e : ◌≡◌ {A = Result ℕ Refused} (Ok r) (Ok (length T)) = accepted.2 in cc

  sides : All (Sides n) T
  sides = all_members T (finished_sides costs (fine_kit lent_fit.kit) reach_regular accepted.1)

  left_is : table ≡ laid T ++ zeros (length rules - length (laid T))
  left_is = accepted.3

  table_is : table_of n table r ≡ T
  table_is =
      ap (λ (k : ℕ). table_of n table k) rows_are
      ∙ ap (λ (l : List ℕ). table_of n l (length T)) left_is
      ∙ table_laid n T (zeros (length rules - length (laid T))) sides

  -- the rows in use are the finished table
  pub table_finished : IsFinished n bound sizes costs swaps (table_of n table r)
  table_finished = subst (IsFinished n bound sizes costs swaps) (sym table_is) accepted.1

  -- ---- what settle tests of such a table holds

  rules_lent : Lent n 256 rules
  rules_lent = table_lent n bound sizes costs swaps rules hold.0

  few : length T ≤ rows_lent n rules
  few = hold.1.0 T accepted.1

  long : length table ≡ length rules
  long =
      let l : length (laid T) ≡ length T * (2 * n) = laid_long n T sides in
      let m : length T * (2 * n) ≤ rows_lent n rules * (2 * n) = mul-le-mul_right (2 * n) few in
      ap length left_is ∙ omega (arith, length-append (laid T) (zeros (length rules - length (laid T))), length-replicate {A = ℕ} (length rules - length (laid T)) 0, l, m, rules_lent.whole)

  same_rows : rows_lent n table ≡ rows_lent n rules
  same_rows = ap (λ (k : ℕ). k / (2 * n)) long

  proper_at : (i : ℕ) → i < r → Proper bound sizes costs (row_at n table i)
  proper_at i l =
      finished_proper costs (fine_kit lent_fit.kit) reach_regular table_finished (row_at n table i)
      (numbered_in (row_at n table) r i l)

  -- a load of n counts within the bound passes every test of settle
  pub settle_holds : (load : List ℕ) → length load ≡ n → grade sizes load ≤ bound → AllHold (tests n bound sizes costs table r load)
  settle_holds load e l = (
    lent_fit.kinds,
    (
      lent_fit.bounded,
      (
        record {
          sizes_long = lent_fit.kit.sized;
          costs_long = lent_fit.kit.costed;
          load_long = e;
          table = record { whole = ap (λ (k : ℕ). k * (2 * n)) same_rows ∙ rules_lent.whole ∙ sym long; room = subst (λ (k : ℕ). k ≤ 256) (sym same_rows) rules_lent.room };
          in_use = omega (arith, rows_are, few, same_rows);
        },
        (
          lent_fit.kit.sizes_fine,
          (
            lent_fit.kit.costs_fine,
            hold_append (in_turn r (row_test n bound sizes costs table load)) (must (grade sizes load ≤ bound) (refuse OverBound 0, load) ∷ [])
                (hold_turns r (row_test n bound sizes costs table load) (λ i m. (proper_at i m, tt))) (l, tt),
          ),
        ),
      ),
    ),
  )

  -- so a whole show may be settled by it with no further test of it
  pub table_ready : Ready n bound sizes costs table r
  table_ready = record {
    kinds = lent_fit.kinds;
    bounded = lent_fit.bounded;
    sizes_long = lent_fit.kit.sized;
    sizes_fine = lent_fit.kit.sizes_fine;
    in_use = omega (arith, ap (λ (k : ℕ). k * (2 * n)) rows_are, mul-le-mul_right (2 * n) few, rules_lent.whole, long);
    proper = proper_at;
  }

  pub rows_few : r ≤ 256
  rows_few = omega (arith, rows_are, few, rules_lent.room)
