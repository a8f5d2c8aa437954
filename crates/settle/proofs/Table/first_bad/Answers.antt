use Rattle.std.proofs.Common.{rules, ◌≤◌, ◌<◌, arith, ℕ, ℤ, List, tests}
use Rattle.std.specs.Prelude.{Option, None, Some, MatchOption, unwrap_or}
use Rattle.std.proofs.lemmas.Iterator.{first_from_Range}
use Rattle.terms.specs.Flat.{row_at}
use Rattle.terms.specs.Settling.{Proper}
use Rattle.settle.specs.Ready.{LowestBad}
use Rattle.settle.proofs.Table.first_bad.Goals as goal

abbrev Good : ℕ → ℕ → List ℕ → List ℤ → List ℕ → ℕ → Type 0
Good n bound sizes costs rules r = Proper bound sizes costs (row_at n rules r)

abbrev Bad : ℕ → ℕ → List ℕ → List ℤ → List ℕ → ℕ → Type 0
Bad n bound sizes costs rules r = Good n bound sizes costs rules r → ⊥

-- what `find` over the rows says, as the lowest bad row
lowest :
    (n bound : ℕ) (sizes : List ℕ) (costs : List ℤ) (table : List ℕ) (rows : ℕ) (r : Option ℕ)
    → MatchOption r ((k : ℕ) → 0 ≤ k → k < rows → Good n bound sizes costs table k) (λ i. (0 ≤ i) × (i < rows) × Bad n bound sizes costs table i × ((k : ℕ) → 0 ≤ k → k < i → Good n bound sizes costs table k))
    → LowestBad n bound sizes costs table rows (unwrap_or r rows)
lowest n bound sizes costs table rows None h = record { within = omega arith; fine = λ i l. h i (omega arith) l; bad = λ l. absurd (omega arith) }
lowest n bound sizes costs table rows (Some k) (_, l, bad, fine) = record { within = omega arith; fine = λ i m. fine i (omega arith) m; bad = λ m. bad }

pub returns-clause-first : goal.returns-clause-first
returns-clause-first c =
    let t = c.args.self.now in
    lowest t.kit.kinds t.kit.bound t.sizes.now t.costs.now t.rules.now t.rows c.find.result
    (first_from_Range _ _ _ _ (Bad t.kit.kinds t.kit.bound t.sizes.now t.costs.now t.rules.now) (Good t.kit.kinds t.kit.bound t.sizes.now t.costs.now t.rules.now) c.find.ensures.ran
    (λ x q k. search (rules, tests))
    (λ x q k. search (rules, tests)))
