-- Flat tables: 2n numbers a row, the left side (the head) and then the right side (the tail).
use Rattle.std.specs.Prelude.{ℕ, zero, suc, ◌+◌, ◌-◌, ◌*◌, ◌/◌, List, [], ◌∷◌, ◌++◌, length, take, drop}
use Rattle.terms.specs.Load.{zeros}
use Rattle.terms.specs.Swaps.{Swap}
use Rattle.terms.specs.Table.{Row}

-- the two sides of row r
abbrev pub left_at : ℕ → List ℕ → ℕ → List ℕ
left_at n flat r = take n (drop (r * (2 * n)) flat)

abbrev pub right_at : ℕ → List ℕ → ℕ → List ℕ
right_at n flat r = take n (drop (r * (2 * n) + n) flat)

-- the items numbered from `from` on, k of them
abbrev pub numbered : {A : Type 0} → (ℕ → A) → ℕ → ℕ → List A
numbered item from zero = []
numbered item from (suc k) = item from ∷ numbered item (suc from) k

-- the swap, and the row, that stands as row r
abbrev pub swap_at : ℕ → List ℕ → ℕ → Swap
swap_at n flat r = record { left = left_at n flat r; right = right_at n flat r }

abbrev pub row_at : ℕ → List ℕ → ℕ → Row
row_at n flat r = record { head = left_at n flat r; tail = right_at n flat r }

-- how many rows a flat table has
abbrev pub rows_lent : ℕ → List ℕ → ℕ
rows_lent n flat = length flat / (2 * n)

-- the sheet that a flat table of swaps is
abbrev pub sheet_of : ℕ → List ℕ → List Swap
sheet_of n flat = numbered (swap_at n flat) 0 (rows_lent n flat)

-- the first `rows` rows of a flat rule table
abbrev pub table_of : ℕ → List ℕ → ℕ → List Row
table_of n flat rows = numbered (row_at n flat) 0 rows

-- rows laid flat
abbrev pub laid : List Row → List ℕ
laid [] = []
laid (a ∷ rest) = a.head ++ (a.tail ++ laid rest)

-- the rows first, then 0 up to the length
abbrev pub filled : ℕ → List Row → List ℕ
filled long table = laid table ++ zeros (long - length (laid table))
