-- The first row that fits, by its number.
use Rattle.std.specs.Prelude.{ℕ, zero, suc, ◌+◌, ◌≤◌, ◌<◌, ◌≡◌, List}
use Rattle.std.proofs.Common.{ap, subst, arith}
use Rattle.terms.specs.Load.{Fits}
use Rattle.terms.specs.Flat.{left_at, numbered, row_at, table_of}
use Rattle.terms.specs.Settling.{NoneFits, FirstFit, FirstFit.hit, FirstFit.miss}
use Rattle.terms.specs.Table.{Row}
use Rattle.laws.specs.Numbered.{in_numbered}

-- r is the first of the first `rows` rows whose left side fits in x, or `rows` where none does
pub record FirstRow (n : ℕ) (flat : List ℕ) (rows : ℕ) (x : List ℕ) (r : ℕ) : Type 0 where
  pub within : r ≤ rows
  pub none_before : (k : ℕ) → k < r → Fits (left_at n flat k) x → ⊥
  pub fits_there : r < rows → Fits (left_at n flat r) x

module _ (n : ℕ) (flat : List ℕ) (x : List ℕ) where
  first_from : (from k r : ℕ) → r < k → ((i : ℕ) → i < r → Fits (left_at n flat (from + i)) x → ⊥) → Fits (left_at n flat (from + r)) x → FirstFit x (row_at n flat (from + r)) (numbered (row_at n flat) from k)
  first_from from zero r l none fit = absurd (omega arith)
  first_from from (suc k) zero l none fit = let e : from + 0 ≡ from = omega arith in hit (ap (row_at n flat) e) fit
  first_from from (suc k) (suc r) l none fit =
      let e : suc from + r ≡ from + suc r = omega arith in
      let z : from ≡ from + 0 = omega arith in
      miss
      (λ w. none 0 (omega arith) (subst (λ (j : ℕ). Fits (left_at n flat j) x) z w))
      (subst (λ (j : ℕ). FirstFit x (row_at n flat j) (numbered (row_at n flat) (suc from) k)) e (first_from (suc from) k r (omega arith) later (subst (λ (j : ℕ). Fits (left_at n flat j) x) (omega arith) fit)))
    where
      later : (i : ℕ) → i < r → Fits (left_at n flat (suc from + i)) x → ⊥
      later i m w =
          let e : suc from + i ≡ from + suc i = omega arith in
          none (suc i) (omega arith) (subst (λ (j : ℕ). Fits (left_at n flat j) x) e w)

  module _ (rows r : ℕ) (first : FirstRow n flat rows x r) where
    -- it is the first row of the table that fits, or no row of the table fits
    pub first_is : r < rows → FirstFit x (row_at n flat r) (table_of n flat rows)
    first_is l =
        let e : 0 + r ≡ r = omega arith in
        subst (λ (j : ℕ). FirstFit x (row_at n flat j) (table_of n flat rows)) e (first_from 0 rows r l (λ i m w. first.none_before i m (subst (λ (j : ℕ). Fits (left_at n flat j) x) (omega arith) w)) (subst (λ (j : ℕ). Fits (left_at n flat j) x) (omega arith) (first.fits_there l)))

    pub none_is : rows ≤ r → NoneFits (table_of n flat rows) x
    none_is l a m w =
        let t = in_numbered (row_at n flat) rows m in
        first.none_before t.0 (omega (arith, t.1)) (subst (λ (b : Row). Fits b.head x) t.2 w)
