-- What the tests of settle show where all are passed.
-- Assumes nothing.
use Rattle.std.specs.Prelude.{ℕ, ◌≤◌, ◌≡◌, List, [], ◌∷◌, length, ℤ, Result, Ok, Err}
use Rattle.std.proofs.Common.{ap, sym, subst, refl, arith}
use Rattle.terms.specs.declared.Refused.{Refused}
use Rattle.terms.specs.declared.Refusal.{Refusal}
use Rattle.terms.specs.declared.Refusal.TheVariants.{OverBound}
use Rattle.terms.specs.Load.{grade}
use Rattle.terms.specs.Flat.{table_of}
use Rattle.terms.specs.Settling.{Settles}
use Rattle.terms.specs.Outcome.{must, in_turn, Outcome}
use Rattle.terms.specs.Answers.{refuse}
use Rattle.laws.specs.Outcome.{AllHold, Never, passed, never_append, never_turns, append_hold, turns_hold, outcome_map, ends}
use Rattle.laws.specs.Flat.{rows_in}
use Rattle.settle.specs.Ready.{Ready}
use Rattle.settle.specs.Call.{row_test, tests, Accepted, Settling}

pub refused_not_done : (why : Refusal) (place : ℕ) → ◌≡◌ {A = Result (Unit {0}) Refused} (Ok tt) (refuse why place) → ⊥
refused_not_done why place e = let z : ◌≡◌ {A = ℕ} 0 1 = cc in omega arith

-- what settling asks of its table and its load
pub record Fit (n bound : ℕ) (sizes : List ℕ) (costs : List ℤ) (rules : List ℕ) (rows : ℕ) (load : List ℕ) : Type 0 where
  pub ready : Ready n bound sizes costs rules rows
  pub long : length load ≡ n
  pub small : grade sizes load ≤ bound

module _ (n bound : ℕ) (sizes : List ℕ) (costs : List ℤ) (rules : List ℕ) (rows : ℕ) (load : List ℕ) where
  differs : (why : Refusal) (place : ℕ) → ◌≡◌ {A = Result (Unit {0}) Refused × List ℕ} (Ok tt, load) (refuse why place, load) → ⊥
  differs why place e = refused_not_done why place (ap (λ (o : Result (Unit {0}) Refused × List ℕ). o.0) e)

  -- no test answers done
  never_done : Never (Ok tt, load) (tests n bound sizes costs rules rows load)
  never_done = (differs _ _, (differs _ _, (differs _ _, (differs _ _, (differs _ _, never_append (Ok tt, load) (in_turn rows (row_test n bound sizes costs rules load)) (must (grade sizes load ≤ bound) (refuse OverBound 0, load) ∷ []) (never_turns (Ok tt, load) rows (row_test n bound sizes costs rules load) (λ i. (differs _ _, tt))) (differs _ _, tt))))))

  pub all_passed : Outcome (λ o. o.0 ≡ Ok tt) (tests n bound sizes costs rules rows load) (Ok tt, load) → AllHold (tests n bound sizes costs rules rows load)
  all_passed = passed (λ o. o.0 ≡ Ok tt) (tests n bound sizes costs rules rows load) (Ok tt, load) never_done

  -- a refusal of the tests is the call's
  pub settle_stops : (why : Refused) → Outcome (λ o. o.0 ≡ Ok tt) (tests n bound sizes costs rules rows load) (Err why, load) → Settling n bound sizes costs rules rows load (Err why, load)
  settle_stops why o =
      outcome_map (λ o. o.0 ≡ Ok tt) (Accepted n rules rows load) (tests n bound sizes costs rules rows load) (Err why, load) (λ d. absurd (refused_not_done _ _ (sym d))) o

  pub fit_of : AllHold (tests n bound sizes costs rules rows load) → Fit n bound sizes costs rules rows load
  fit_of h =
      let lengths = h.1.1.0 in
      let rest = append_hold (in_turn rows (row_test n bound sizes costs rules load)) (must (grade sizes load ≤ bound) (refuse OverBound 0, load) ∷ []) h.1.1.1.1.1 in
      record {
        ready = record {
          kinds = h.0;
          bounded = h.1.0;
          sizes_long = lengths.sizes_long;
          sizes_fine = h.1.1.1.0;
          in_use = rows_in n rows (length rules) lengths.in_use lengths.table.whole;
          proper = λ i l. (turns_hold rows (row_test n bound sizes costs rules load) rest.0 i l).0;
        };
        long = lengths.load_long;
        small = rest.1.0;
      }

  -- where the tests answer done: what `settle_proper` asks, and what it gives as the call's outcome
  module _ (r : Result (Unit {0}) Refused) (done : r ≡ Ok tt) (said : Outcome (λ o. o.0 ≡ Ok tt) (tests n bound sizes costs rules rows load) (r, load)) where
    held : AllHold (tests n bound sizes costs rules rows load)
    held =
        all_passed (subst (λ (w : Result (Unit {0}) Refused). Outcome (λ o. o.0 ≡ Ok tt) (tests n bound sizes costs rules rows load) (w, load)) done said)

    pub settle_passed : Ready n bound sizes costs rules rows × (length load ≡ n) × (grade sizes load ≤ bound)
    settle_passed = let f = fit_of held in (f.ready, f.long, f.small)

    pub settle_ends : (after : List ℕ) → Settles (table_of n rules rows) load after → Settling n bound sizes costs rules rows load (Ok tt, after)
    settle_ends after s = ends (Accepted n rules rows load) (tests n bound sizes costs rules rows load) _ held (refl, s)
