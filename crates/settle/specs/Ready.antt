-- A rule table that settling may go by.
use Rattle.std.specs.Prelude.{ℕ, ◌*◌, ◌≤◌, ◌<◌, ◌≡◌, List, length, ℤ}
use Rattle.terms.specs.Limits.{All, KindsFine, BoundFine, SizeFine}
use Rattle.terms.specs.Flat.{row_at}
use Rattle.terms.specs.Settling.{Proper}

-- a kit and a table of it whose rows in use are proper
pub record Ready (n bound : ℕ) (sizes : List ℕ) (costs : List ℤ) (rules : List ℕ) (rows : ℕ) : Type 0 where
  pub kinds : KindsFine n
  pub bounded : BoundFine bound
  pub sizes_long : length sizes ≡ n
  pub sizes_fine : All SizeFine sizes
  pub in_use : rows * (2 * n) ≤ length rules
  pub proper : (i : ℕ) → i < rows → Proper bound sizes costs (row_at n rules i)

-- r is the lowest row in use that is not proper, or the number of rows where all are
pub record LowestBad (n bound : ℕ) (sizes : List ℕ) (costs : List ℤ) (rules : List ℕ) (rows r : ℕ) : Type 0 where
  pub within : r ≤ rows
  pub fine : (i : ℕ) → i < r → Proper bound sizes costs (row_at n rules i)
  pub bad : r < rows → Proper bound sizes costs (row_at n rules r) → ⊥
