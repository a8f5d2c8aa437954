-- Short cuts that give wrong lists, as definitions. Nothing rests on them: each edit of must-fail/ puts
-- one in the place of the right definition, and is refused.
use Rattle.std.specs.Prelude.{ℕ, suc, ◌-◌, ◌%◌, ◌^◌, ◌≡◌, ◌⊎◌, cond, List, [], ◌∷◌, ◌++◌, map, ltb, ℤ, pos, negsuc, neg_ℤ, nat_abs, ◌<ℤ◌}
use Rattle.terms.specs.Load.{plus, less}
use Rattle.terms.specs.Order.{cost, ByCost, Lex, Before}
use Rattle.terms.specs.Swaps.{Swap, Step, Reaches}

-- a row as the difference of its sides: what both sides have is left out
abbrev pub StepByDifference : List ℕ → List ℕ → List ℕ → List ℕ → Type 0
StepByDifference h t = Step (less h t) (less t h)

-- the shared clamp of a swap dropped
abbrev pub unclamped : Swap → Swap
unclamped s = record { left = less s.left s.right; right = less s.right s.left }

abbrev pub ReachesUnclamped : List Swap → List ℕ → List ℕ → Type 0
ReachesUnclamped sheet = Reaches (map unclamped sheet)

-- loads called equal because their difference is a sum of swaps
abbrev pub summed : Swap → Swap → Swap
summed s t = unclamped (record { left = plus s.left t.left; right = plus s.right t.right })

abbrev pub sums : List Swap → List Swap
sums [] = []
sums (s ∷ sheet) = map (summed s) sheet ++ sums sheet

abbrev pub ReachesByLattice : List Swap → List ℕ → List ℕ → Type 0
ReachesByLattice sheet = Reaches (sheet ++ sums sheet)

-- the tie read the other way
abbrev pub BeforeByGreater : List ℤ → List ℕ → List ℕ → Type 0
BeforeByGreater costs = ByCost costs (λ x y. Lex y x)

-- costs as unsigned
abbrev pub BeforeUnsigned : List ℤ → List ℕ → List ℕ → Type 0
BeforeUnsigned costs = Before (map (λ c. pos (nat_abs c)) costs)

-- costs summed in 32 bits, where a sum wraps
abbrev pub wrapped : ℤ → ℤ
wrapped (pos k) = let m : ℕ = k % 2 ^ 32 in cond (ltb m (2 ^ 31)) (pos m) (neg_ℤ (pos (2 ^ 32 - m)))
wrapped (negsuc k) = let m : ℕ = suc k % 2 ^ 32 in cond (ltb m (2 ^ 31)) (neg_ℤ (pos m)) (pos (2 ^ 32 - m))

abbrev pub BeforeWrapped : List ℤ → List ℕ → List ℕ → Type 0
BeforeWrapped costs x y = (wrapped (cost costs x) <ℤ wrapped (cost costs y)) ⊎ ((wrapped (cost costs x) ≡ wrapped (cost costs y)) × Lex x y)
