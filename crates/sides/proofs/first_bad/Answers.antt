use Rattle.std.proofs.Common.{rules, ◌≤◌, ◌<◌, arith, ℕ, List, tests}
use Rattle.std.specs.Prelude.{Option, None, Some, MatchOption, unwrap_or, length}
use Rattle.std.proofs.lemmas.Iterator.{first_from_Range}
use Rattle.terms.specs.Flat.{swap_at}
use Rattle.sides.specs.Fine.{Unequal, Even, LowestBad}
use Rattle.sides.proofs.first_bad.Goals as goal

abbrev Good : ℕ → List ℕ → List ℕ → ℕ → Type 0
Good n sizes swaps k = Unequal (swap_at n swaps k) × Even sizes (swap_at n swaps k)

abbrev Bad : ℕ → List ℕ → List ℕ → ℕ → Type 0
Bad n sizes swaps k = Unequal (swap_at n swaps k) → Even sizes (swap_at n swaps k) → ⊥

lowest : (n : ℕ) (sizes swaps : List ℕ) (count : ℕ) (r : Option ℕ) → MatchOption r ((k : ℕ) → 0 ≤ k → k < count → Good n sizes swaps k) (λ i. (0 ≤ i) × (i < count) × Bad n sizes swaps i × ((k : ℕ) → 0 ≤ k → k < i → Good n sizes swaps k)) → LowestBad n sizes swaps count (unwrap_or r count)
lowest n sizes swaps count None h = record { within = omega arith; fine = λ i l. h i (omega arith) l; bad = λ l. absurd (omega arith) }
lowest n sizes swaps count (Some k) (_, l, bad, fine) = record { within = omega arith; fine = λ i m. fine i (omega arith) m; bad = λ m. bad }

pub returns-clause-first : goal.returns-clause-first
returns-clause-first c =
    let sizes = c.args.sizes.now in
    let n = length sizes in
    let swaps = c.args.swaps.now in
    lowest n sizes swaps c.args.count c.find.result
    (first_from_Range _ _ _ _ (Bad n sizes swaps) (Good n sizes swaps) c.find.ensures.ran
    (λ x q k. search (rules, tests))
    (λ x q k. (search rules, search (rules, tests))))
