use Rattle.std.specs.Prelude.{ℕ, ◌≤◌, ◌<◌, List, Option, None, Some, MatchOption, unwrap_or, ◌≡◌, true, false}
use Rattle.std.proofs.Common.{rules, arith, refl, sym, subst}
use Rattle.terms.specs.Decides.{Decides}
use Rattle.std.proofs.lemmas.Iterator.{first_from_Range}
use Rattle.terms.specs.Load.{Fits}
use Rattle.terms.specs.Flat.{left_at}
use Rattle.loads.specs.FirstRow.{FirstRow}
use Rattle.loads.proofs.first_fit.Goals as goal

-- what `find` over the rows says, as the first row
first_row : (n : ℕ) (flat : List ℕ) (rows : ℕ) (x : List ℕ) (r : Option ℕ) → MatchOption r ((k : ℕ) → 0 ≤ k → k < rows → Fits (left_at n flat k) x → ⊥) (λ i. (0 ≤ i) × (i < rows) × Fits (left_at n flat i) x × ((k : ℕ) → 0 ≤ k → k < i → Fits (left_at n flat k) x → ⊥)) → FirstRow n flat rows x (unwrap_or r rows)
first_row n flat rows x None m = record { within = omega arith; none_before = λ k l. m k (omega arith) l; fits_there = λ l. absurd (omega arith) }
first_row n flat rows x (Some i) m = record { within = omega arith; none_before = λ k l. m.3 k (omega arith) l; fits_there = λ l. m.2 }

-- of the part that left_of gives, and so of the row
fit_there : {h g : List ℕ} (x : List ℕ) → h ≡ g → Decides (Fits h x) true → Fits g x
fit_there x e d = subst (λ (h : List ℕ). Fits h x) e (d.holds refl)

fit_not : {h g : List ℕ} (x : List ℕ) → h ≡ g → Decides (Fits h x) false → Fits g x → ⊥
fit_not x e d w = d.fails refl (subst (λ (h : List ℕ). Fits h x) (sym e) w)

pub returns-clause-first : goal.returns-clause-first
returns-clause-first c =
    let a = c.args in
    let there = λ (k : ℕ). Fits (left_at a.n a.flat.now k) a.x.now in
    first_row a.n a.flat.now a.rows a.x.now c.find.result
    (first_from_Range _ _ _ _ there (λ k. there k → ⊥) c.find.ensures.ran (λ k q h. search (rules, fit_there)) (λ k q h. search (rules, fit_not)))
