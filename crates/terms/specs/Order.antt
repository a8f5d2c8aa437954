-- The cost order.
use Rattle.std.specs.Prelude.{ℕ, ◌<◌, ◌≡◌, ◌⊎◌, List, [], ◌∷◌, ℤ, pos, ◌+ℤ◌, ◌*ℤ◌, ◌<ℤ◌}

-- the cost: the sum of count times cost, exact and signed
abbrev pub cost : List ℤ → List ℕ → ℤ
cost [] xs = pos 0
cost (c ∷ cs) [] = pos 0
cost (c ∷ cs) (x ∷ xs) = (pos x *ℤ c) +ℤ cost cs xs

-- at the first kind where the counts differ, x has the smaller count
abbrev pub Lex : List ℕ → List ℕ → Type 0
Lex [] ys = ⊥
Lex (x ∷ xs) [] = ⊥
Lex (x ∷ xs) (y ∷ ys) = (x < y) ⊎ ((x ≡ y) × Lex xs ys)

-- x costs less than y, or as much and the tie goes to x
abbrev pub ByCost : List ℤ → (List ℕ → List ℕ → Type 0) → List ℕ → List ℕ → Type 0
ByCost costs Tie x y = (cost costs x <ℤ cost costs y) ⊎ ((cost costs x ≡ cost costs y) × Tie x y)

-- x comes before y in the cost order
abbrev pub Before : List ℤ → List ℕ → List ℕ → Type 0
Before costs = ByCost costs Lex
