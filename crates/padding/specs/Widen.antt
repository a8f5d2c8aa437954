-- How a kit of n kinds is made one of 12, and what its parts weigh. Nothing is proved here.
use Rattle.std.specs.Prelude.{ℕ, ◌-◌, ◌*◌, ◌≤◌, ◌≡◌, List, [], ◌∷◌, ◌++◌, length, take, replicate, ℤ, pos, ◌+ℤ◌}
use Rattle.terms.specs.Load.{zeros}
use Rattle.terms.specs.Limits.{All, SizeFine, CostFine, most_kinds, most_cost}
use Rattle.terms.specs.Swaps.{Swap}
use Rattle.terms.specs.Table.{Row}
use Rattle.laws.specs.Signed.{up}

-- a kit of n kinds that has passed the tests
pub record FineKit (n : ℕ) (sizes : List ℕ) (costs : List ℤ) : Type 0 where
  pub few : n ≤ most_kinds
  pub sized : length sizes ≡ n
  pub costed : length costs ≡ n
  pub sizes_fine : All SizeFine sizes
  pub costs_fine : All CostFine costs

-- a load of n counts, with no part of the further kinds
abbrev pub widen : ℕ → List ℕ → List ℕ
widen n x = x ++ zeros (most_kinds - n)

abbrev pub widen_swap : ℕ → Swap → Swap
widen_swap n s = record { left = widen n s.left; right = widen n s.right }

abbrev pub widen_row : ℕ → Row → Row
widen_row n a = record { head = widen n a.head; tail = widen n a.tail }

-- a further kind has size 1
abbrev pub widen_sizes : ℕ → List ℕ → List ℕ
widen_sizes n sizes = sizes ++ replicate (most_kinds - n) 1

-- and cost 0
abbrev pub widen_costs : ℕ → List ℤ → List ℤ
widen_costs n costs = costs ++ replicate (most_kinds - n) (pos 0)

-- what a part weighs: its cost, and 1,000,000 for each of its size, so that it is never below 0
abbrev pub weight : ℕ → ℤ → ℕ
weight size cost = up (cost +ℤ pos (most_cost * size))

abbrev pub weigh : List ℕ → List ℤ → List ℕ
weigh [] costs = []
weigh (s ∷ sizes) [] = []
weigh (s ∷ sizes) (c ∷ costs) = weight s c ∷ weigh sizes costs

-- the weights of the 12 kinds
abbrev pub weights : ℕ → List ℕ → List ℤ → List ℕ
weights n sizes costs = weigh (widen_sizes n sizes) (widen_costs n costs)

-- a load as one of m counts: of more only the first m, and after fewer 0
abbrev pub resize : ℕ → List ℕ → List ℕ
resize m x = take m x ++ zeros (m - length x)

abbrev pub resize_row : ℕ → Row → Row
resize_row m a = record { head = resize m a.head; tail = resize m a.tail }
