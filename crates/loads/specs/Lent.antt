-- Lent tables.
use Rattle.std.specs.Prelude.{ℕ, ◌*◌, ◌≤◌, ◌≡◌, List, length}
use Rattle.terms.specs.Flat.{rows_lent}

-- the table has whole rows of 2n numbers, and at most so many
pub record Lent (n most : ℕ) (flat : List ℕ) : Type 0 where
  pub whole : rows_lent n flat * (2 * n) ≡ length flat
  pub room : rows_lent n flat ≤ most
