-- The limits of a kit. The program has them as constants of `Kit`.
use Rattle.std.specs.Prelude.{ℕ, ◌≤◌, List, [], ◌∷◌, ℤ, nat_abs}

-- each element is so
abbrev pub All : {A : Type 0} → (A → Type 0) → List A → Type 0
All P [] = Unit {0}
All P (x ∷ xs) = P x × All P xs

-- the greatest number of kinds, bound, size and cost
abbrev pub most_kinds : ℕ
most_kinds = 12

abbrev pub most_bound : ℕ
most_bound = 1000

abbrev pub most_size : ℕ
most_size = 1000

abbrev pub most_cost : ℕ
most_cost = 1000000

-- the greatest number of swaps, rows and loads
abbrev pub most_swaps : ℕ
most_swaps = 64

abbrev pub most_rows : ℕ
most_rows = 256

abbrev pub most_loads : ℕ
most_loads = 1024

-- the greatest count of a text, and its greatest length in bytes
abbrev pub most_count : ℕ
most_count = 65535

abbrev pub most_text : ℕ
most_text = 65536

-- a kit has 1 to 12 kinds, and a bound from 1 to 1,000
abbrev pub KindsFine : ℕ → Type 0
KindsFine n = (1 ≤ n) × (n ≤ most_kinds)

abbrev pub BoundFine : ℕ → Type 0
BoundFine b = (1 ≤ b) × (b ≤ most_bound)

-- a size is from 1 to 1,000, and a cost at most 1,000,000 either way
abbrev pub SizeFine : ℕ → Type 0
SizeFine s = (1 ≤ s) × (s ≤ most_size)

abbrev pub CostFine : ℤ → Type 0
CostFine c = nat_abs c ≤ most_cost
