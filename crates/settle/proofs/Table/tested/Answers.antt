use Rattle.std.proofs.Common.{ℕ, ℤ, List, [], ◌∷◌, ◌≡◌, ◌≤◌, ◌<◌, refl, ap, inl, inr, arith, rules}
use Rattle.std.specs.Prelude.{Result, Ok, Err}
use Rattle.terms.specs.declared.Refused.{Refused}
use Rattle.terms.specs.declared.Refusal.TheVariants.{BadRow, OverBound}
use Rattle.terms.specs.Load.{grade}
use Rattle.terms.specs.Limits.{All, KindsFine, BoundFine, SizeFine, CostFine}
use Rattle.terms.specs.Outcome.{Test, must, in_turn, Outcome}
use Rattle.terms.specs.Answers.{refuse}
use Rattle.laws.specs.Outcome.{past, stops, hold_turns, turns_stop}
use Rattle.settle.specs.Ready.{LowestBad}
use Rattle.settle.specs.Call.{Lengths, row_test, tests}
use Rattle.settle.proofs.Table.tested.Goals as goal

-- the last test
abbrev over_bound : ℕ → List ℕ → List ℕ → List (Test (Result (Unit {0}) Refused × List ℕ))
over_bound bound sizes load = must (grade sizes load ≤ bound) (refuse OverBound 0, load) ∷ []

abbrev IsDone : Result (Unit {0}) Refused × List ℕ → Type 0
IsDone o = o.0 ≡ Ok tt

module _ (n bound : ℕ) (sizes : List ℕ) (costs : List ℤ) (rules : List ℕ) (rows : ℕ) (load : List ℕ) where
  -- the tests before that of the rows
  abbrev Early : Type 0
  Early = KindsFine n × BoundFine bound × Lengths n sizes costs rules rows load × All SizeFine sizes × All CostFine costs

  -- where they hold, a bad row that is the lowest gives the outcome of all tests
  at_row : Early → (bad : ℕ) → LowestBad n bound sizes costs rules rows bad → bad < rows → (why : Refused) → why ≡ record { why = BadRow; place = bad } → Outcome IsDone (tests n bound sizes costs rules rows load) (Err why, load)
  at_row e bad low l why is =
      let rest = stops IsDone (in_turn rows (row_test n bound sizes costs rules load)) (over_bound bound sizes load) (Err why, load) (turns_stop rows (row_test n bound sizes costs rules load) bad (Err why, load) l (λ i m. (low.fine i m, tt)) (inl (low.bad l, ap (λ w. (Err w, load)) is))) in
      inr (e.0, inr (e.1, inr (e.2, inr (e.3, inr (e.4, rest)))))

  -- and where no row is bad, the last test does
  at_last : Early → LowestBad n bound sizes costs rules rows rows → (o : Result (Unit {0}) Refused × List ℕ) → Outcome IsDone (over_bound bound sizes load) o → Outcome IsDone (tests n bound sizes costs rules rows load) o
  at_last e low o last =
      let rest = past IsDone (in_turn rows (row_test n bound sizes costs rules load)) (over_bound bound sizes load) o (hold_turns rows (row_test n bound sizes costs rules load) (λ i l. (low.fine i l, tt))) last in
      inr (e.0, inr (e.1, inr (e.2, inr (e.3, inr (e.4, rest)))))

pub returns-in-Some : goal.returns-in-Some
returns-in-Some c =
    let t = c.args.self.now in
    at_row t.kit.kinds t.kit.bound t.sizes.now t.costs.now t.rules.now t.rows c.args.load.now (search rules) c.in-Some.bad c.in-Some.ensures.first c.in-Some.ensures.in_table _ c.at-in-Some.ensures

pub returns-then-self-grade_of : goal.returns-then-self-grade_of
returns-then-self-grade_of c =
    let t = c.args.self.now in
    at_last t.kit.kinds t.kit.bound t.sizes.now t.costs.now t.rules.now t.rows c.args.load.now (search rules) c.in_default.ensures.first _ (inl (λ l. omega (arith, c.grade_of.ensures), ap (λ w. (Err w, c.args.load.now)) c.at-then-self-grade_of.ensures))

pub returns : goal.returns
returns c =
    let t = c.args.self.now in
    at_last t.kit.kinds t.kit.bound t.sizes.now t.costs.now t.rules.now t.rows c.args.load.now (search rules) c.in_default.ensures.first _ (inr (omega (arith, c.grade_of.ensures), refl))
