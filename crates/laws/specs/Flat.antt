-- Where the rows of a flat table lie.
-- Assumes nothing.
use Rattle.std.specs.Prelude.{ℕ, ◌+◌, ◌*◌, ◌-◌, ◌/◌, ◌<◌, ◌≤◌, ◌≡◌, List, length, take, drop}
use Rattle.std.proofs.Common.{sym, subst, arith, mul-le-mul_right, suc-mul, mul-div_cancel, length-take, length-drop}
use Rattle.std.proofs.Math.Nat.{add-sub_cancel_left}
use Rattle.terms.specs.Swaps.{◌∈◌}
use Rattle.terms.specs.Table.{Row}
use Rattle.terms.specs.Flat.{left_at, right_at, row_at, table_of}
use Rattle.laws.specs.Numbered.{in_numbered}

-- row r of `rows` rows lies within the table
pub row_in : (n rows r len : ℕ) → r < rows → rows * (2 * n) ≤ len → r * (2 * n) + 2 * n ≤ len
row_in n rows r len l h = omega (arith, mul-le-mul_right (2 * n) l, suc-mul r (2 * n))

-- a part of n from `at` on, as the machine has it
pub part_is : {A : Type 0} (l : List A) (at n : ℕ) → take (at + n - at) (drop at l) ≡ take n (drop at l)
part_is l at n = rw (add-sub_cancel_left at n)

-- the sides of a row have n counts
module _ (n : ℕ) (flat : List ℕ) (r : ℕ) (lies : r * (2 * n) + 2 * n ≤ length flat) where
  pub left_long : length (left_at n flat r) ≡ n
  left_long = simp (length-take, length-drop) (omega arith)

  pub right_long : length (right_at n flat r) ≡ n
  right_long = simp (length-take, length-drop) (omega arith)

-- a table of k rows has k rows
pub rows_are : (n len k : ℕ) → 1 ≤ n → len ≡ k * (2 * n) → len / (2 * n) ≡ k
rows_are n len k l e = rw e (mul-div_cancel k (omega arith))

-- rows in use lie within the table
pub rows_in : (n rows len : ℕ) → rows ≤ len / (2 * n) → (len / (2 * n)) * (2 * n) ≡ len → rows * (2 * n) ≤ len
rows_in n rows len l e = omega (arith, mul-le-mul_right (2 * n) l)

-- both sides of a row have n counts
pub record Sides (n : ℕ) (a : Row) : Type 0 where
  pub of_head : length a.head ≡ n
  pub of_tail : length a.tail ≡ n

-- so of each row
abbrev pub Sided : ℕ → List Row → Type 0
Sided n T = (a : Row) → a ∈ T → Sides n a

-- the rows of a flat table are so
pub row_sides : (n : ℕ) (flat : List ℕ) (r : ℕ) → r * (2 * n) + 2 * n ≤ length flat → Sides n (row_at n flat r)
row_sides n flat r lies = record { of_head = left_long n flat r lies; of_tail = right_long n flat r lies }

pub table_sided : (n rows : ℕ) (flat : List ℕ) → rows * (2 * n) ≤ length flat → Sided n (table_of n flat rows)
table_sided n rows flat h a m =
    let t = in_numbered (row_at n flat) rows m in
    subst (Sides n) (sym t.2) (row_sides n flat t.0 (row_in n rows t.0 (length flat) t.1 h))
