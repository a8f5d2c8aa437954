use Rattle.std.proofs.Common.{ℕ, ℤ, List, length, ◌≡◌, ◌<◌, refl, ap, subst, inl, inr, arith, rules}
use Rattle.std.specs.Prelude.{Result, Ok}
use Rattle.terms.specs.declared.Refused.{Refused}
use Rattle.terms.specs.Limits.{All, KindsFine, BoundFine, SizeFine, CostFine}
use Rattle.terms.specs.Flat.{swap_at, rows_lent}
use Rattle.terms.specs.Outcome.{in_turn, Outcome}
use Rattle.laws.specs.Outcome.{AllHold, Stopped, ends, outcome_map, hold_turns, turns_stop}
use Rattle.sides.specs.Fine.{Unequal, Even, LowestBad, side_tests}
use Rattle.complete.specs.Call.{Lengths, swap_tests, input_tests}
use Rattle.complete.proofs.Sheet.tested.Goals as goal

abbrev Answer : Type 0
Answer = Result (Unit {0}) Refused × List ℕ

abbrev IsDone : Answer → Type 0
IsDone o = o.0 ≡ Ok tt

module _ (n bound : ℕ) (sizes : List ℕ) (costs : List ℤ) (swaps rules : List ℕ) where
  -- the tests before those of the swaps
  abbrev Early : Type 0
  Early = KindsFine n × BoundFine bound × Lengths n sizes costs swaps rules × All SizeFine sizes × All CostFine costs

  -- where they hold, the lowest bad swap is found by as many kinds as there are sizes
  lowest : Early → (count r : ℕ) → LowestBad (length sizes) sizes swaps count r → LowestBad n sizes swaps count r
  lowest e count r low = subst (λ (m : ℕ). LowestBad m sizes swaps count r) e.2.sizes_long low

  -- where they hold, the outcome of the tests of swaps is that of all
  from_swaps : Early → (o : Answer) → Outcome IsDone (in_turn (rows_lent n swaps) (swap_tests n sizes swaps rules)) o → Outcome IsDone (input_tests n bound sizes costs swaps rules) o
  from_swaps e o rest = inr (e.0, inr (e.1, inr (e.2, inr (e.3, inr (e.4, rest)))))

  -- and so is that of the first bad swap
  from_bad : Early → (bad : ℕ) → bad < rows_lent n swaps → ((i : ℕ) → i < bad → AllHold (swap_tests {A = Unit {0}} n sizes swaps rules i)) → (o : Answer) → Stopped (swap_tests n sizes swaps rules bad) o → Outcome IsDone (input_tests n bound sizes costs swaps rules) o
  from_bad e bad l fine o s =
      let tests = swap_tests {A = Unit {0}} n sizes swaps rules in
      let count = rows_lent n swaps in
      from_swaps e o (outcome_map (λ p. ⊥) IsDone (in_turn count tests) o (λ x. absurd x) (turns_stop count tests bad o l fine s))

  -- which the search for the lowest finds
  at_swap : Early → (bad : ℕ) → LowestBad n sizes swaps (rows_lent n swaps) bad → bad < rows_lent n swaps → (o : Answer) → Stopped (swap_tests n sizes swaps rules bad) o → Outcome IsDone (input_tests n bound sizes costs swaps rules) o
  at_swap e bad low l = from_bad e bad l (λ i m. ((low.fine i m).0, ((low.fine i m).1, tt)))

  -- its tests, by as many kinds as there are sizes and at a place that is its number
  named : (m bad place : ℕ) → m ≡ n → place ≡ bad → (r : Result (Unit {0}) Refused) → Outcome (λ r. r ≡ Ok tt) (side_tests sizes (swap_at m swaps bad) place) r → Outcome (λ r. r ≡ Ok tt) (side_tests sizes (swap_at n swaps bad) bad) r
  named m bad place long is r o =
      subst (λ (k : ℕ). Outcome (λ r. r ≡ Ok tt) (side_tests sizes (swap_at k swaps bad) bad) r) long (subst (λ (p : ℕ). Outcome (λ r. r ≡ Ok tt) (side_tests sizes (swap_at m swaps bad) p) r) is o)

  -- what the tests of a bad swap answer
  swap_answer : (bad : ℕ) → (Unequal (swap_at n swaps bad) → Even sizes (swap_at n swaps bad) → ⊥) → (r : Result (Unit {0}) Refused) → Outcome (λ r. r ≡ Ok tt) (side_tests sizes (swap_at n swaps bad) bad) r → Stopped (swap_tests n sizes swaps rules bad) (r, rules)
  swap_answer bad none r (inl f) = inl (f.0, ap (λ w. (w, rules)) f.1)
  swap_answer bad none r (inr (u, inl f)) = inr (u, inl (f.0, ap (λ w. (w, rules)) f.1))
  swap_answer bad none r (inr (u, inr (e, done))) = absurd (none u e)

  -- where no swap is bad, all tests hold
  none_bad : Early → LowestBad n sizes swaps (rows_lent n swaps) (rows_lent n swaps) → Outcome IsDone (input_tests n bound sizes costs swaps rules) (Ok tt, rules)
  none_bad e low =
      let tests = swap_tests {A = Unit {0}} n sizes swaps rules in
      let count = rows_lent n swaps in
      from_swaps e _ (ends IsDone (in_turn count tests) _ (hold_turns count tests (λ i m. ((low.fine i m).0, ((low.fine i m).1, tt)))) refl)

pub returns-in-Some : goal.returns-in-Some
returns-in-Some c =
    let s = c.args.self.now in
    let early : Early s.kit.kinds s.kit.bound s.sizes.now s.costs.now s.swaps.now c.args.rules.now = search rules in
    let inside = c.in-Some.ensures.in_sheet in
    let low = lowest _ _ _ _ _ _ early _ _ c.in-Some.ensures.first in
    let answer = named _ s.kit.bound _ s.costs.now _ c.args.rules.now _ c.in-Some.bad _ early.2.sizes_long (grind arith) _ c.tested.ensures in
    at_swap _ _ _ _ _ _ early c.in-Some.bad low inside _ (swap_answer _ s.kit.bound _ s.costs.now _ c.args.rules.now c.in-Some.bad (low.bad inside) _ answer)

pub returns-in-None : goal.returns-in-None
returns-in-None c =
    let s = c.args.self.now in
    let early : Early s.kit.kinds s.kit.bound s.sizes.now s.costs.now s.swaps.now c.args.rules.now = search rules in
    none_bad _ _ _ _ _ _ early (lowest _ _ _ _ _ _ early _ _ c.in-None.ensures.first)
