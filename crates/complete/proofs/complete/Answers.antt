use Rattle.std.proofs.Common.{ℕ, zero, suc, ℤ, List, [], ◌∷◌, ◌++◌, map, ◌≡◌, refl, ap, subst, ◌∙◌, inl, inr, rules}
use Rattle.std.proofs.lemmas.List.{map-append}
use Rattle.std.specs.Prelude.{Result, Ok, Err}
use Rattle.std.specs.Result.{result_map_both}
use Rattle.terms.specs.declared.Refused.{Refused}
use Rattle.terms.specs.Flat.{rows_lent}
use Rattle.terms.specs.Outcome.{Test, must, in_turn, Outcome}
use Rattle.laws.specs.Outcome.{AllHold, outcome_map, past, stops}
use Rattle.complete.specs.Call.{swap_tests, input_tests, room_test, Accepted, Completing}
use Rattle.complete.specs.Passed.{all_passed, fit_of, table_lent}
use Rattle.complete.proofs.complete.Goals as goal

-- ---- tests whose outcomes are handed through f

abbrev through : {O P : Type 0} → (O → P) → Test O → Test P
through f t = must t.holds (f t.otherwise)

outcome_through : {O P : Type 0} (f : O → P) (accepted : O → Type 0) (accepted' : P → Type 0) → ((o : O) → accepted o → accepted' (f o)) → (ts : List (Test O)) (o : O) → Outcome accepted ts o → Outcome accepted' (map (through f) ts) (f o)
outcome_through f accepted accepted' g [] o a = g o a
outcome_through f accepted accepted' g (t ∷ ts) o (inl n) = inl (n.0, ap f n.1)
outcome_through f accepted accepted' g (t ∷ ts) o (inr a) = inr (a.0, outcome_through f accepted accepted' g ts o a.1)

turns_through : {O P : Type 0} (f : O → P) (k : ℕ) (tests : ℕ → List (Test O)) → map (through f) (in_turn k tests) ≡ in_turn k (λ i. map (through f) (tests i))
turns_through f zero tests = refl
turns_through f (suc k) tests =
    map-append (through f) (tests 0) (in_turn k (λ i. tests (suc i))) ∙ ap (λ ts. map (through f) (tests 0) ++ ts) (turns_through f k (λ i. tests (suc i)))

-- ---- what the tests of what is lent say of the call

-- an answer of the tests as one of the call, with 0 rows where there is no refusal
abbrev rows_0 : Result (Unit {0}) Refused × List ℕ → Result ℕ Refused × List ℕ
rows_0 o = (result_map_both (λ u. 0) (λ w. w) o.0, o.1)

abbrev IsNone : Result ℕ Refused × List ℕ → Type 0
IsNone o = o.0 ≡ Ok 0

module _ (n bound : ℕ) (sizes : List ℕ) (costs : List ℤ) (swaps rules : List ℕ) (v : Result (Unit {0}) Refused) (said : Outcome (λ o. o.0 ≡ Ok tt) (input_tests n bound sizes costs swaps rules) (v, rules)) where
  told : Outcome IsNone (input_tests n bound sizes costs swaps rules) (rows_0 (v, rules))
  told =
      let t = outcome_through rows_0 (λ o. o.0 ≡ Ok tt) IsNone (λ o e. ap (result_map_both (λ u. 0) (λ w. w)) e) (input_tests n bound sizes costs swaps rules) (v, rules) said in
      rw (turns_through rows_0 (rows_lent n swaps) (swap_tests n sizes swaps rules)) at t

  -- every test of the input is passed where there is no refusal
  held : v ≡ Ok tt → AllHold (input_tests {A = ℕ} n bound sizes costs swaps rules)
  held e =
      all_passed n bound sizes costs swaps rules IsNone 0 (subst (λ w. Outcome IsNone (input_tests n bound sizes costs swaps rules) (rows_0 (w, rules))) e told)

  -- a refusal is that of the call
  refused : (w : Refused) → v ≡ Err w → Completing n bound sizes costs swaps rules (Err w, rules)
  refused w e =
      stops (Accepted n bound sizes costs swaps rules) (input_tests n bound sizes costs swaps rules) (room_test n bound sizes costs swaps rules) (Err w, rules)
      (outcome_map IsNone (λ o. ⊥) (input_tests n bound sizes costs swaps rules) (Err w, rules) (λ z. cc) (subst (λ w. Outcome IsNone (input_tests n bound sizes costs swaps rules) (rows_0 (w, rules))) e told))

pub returns-in_err-tested : goal.returns-in_err-tested
returns-in_err-tested c =
    let a = c.args in
    let same : Err c.in_err-tested.field-0.0 ≡ c.from_residual.result = search rules in
    rw same at (refused a.kit.kinds a.kit.bound a.sizes.now a.costs.now a.swaps.now a.rules.now _ c.tested.ensures c.in_err-tested.field-0.0 (search rules))

pub finish-requires : goal.finish-requires
finish-requires c =
    let a = c.args in
    let all = held a.kit.kinds a.kit.bound a.sizes.now a.costs.now a.swaps.now a.rules.now _ c.tested.ensures (search rules) in
    (fit_of a.kit.kinds a.kit.bound a.sizes.now a.costs.now a.swaps.now a.rules.now all, table_lent a.kit.kinds a.kit.bound a.sizes.now a.costs.now a.swaps.now a.rules.now all)

pub returns : goal.returns
returns c =
    let a = c.args in
    past (Accepted a.kit.kinds a.kit.bound a.sizes.now a.costs.now a.swaps.now a.rules.now) (input_tests a.kit.kinds a.kit.bound a.sizes.now a.costs.now a.swaps.now a.rules.now) (room_test a.kit.kinds a.kit.bound a.sizes.now a.costs.now a.swaps.now a.rules.now) _ (held a.kit.kinds a.kit.bound a.sizes.now a.costs.now a.swaps.now a.rules.now _ c.tested.ensures (search rules)) c.finish.ensures
