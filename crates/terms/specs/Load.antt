-- Loads: a load of a kit of n kinds is a list of n counts, kind 1 first.
use Rattle.std.specs.Prelude.{ℕ, ◌+◌, ◌-◌, ◌*◌, ◌≤◌, List, [], ◌∷◌, replicate, set, get_or}

-- kind by kind
abbrev pub both : (ℕ → ℕ → ℕ) → List ℕ → List ℕ → List ℕ
both f [] ys = []
both f (x ∷ xs) [] = []
both f (x ∷ xs) (y ∷ ys) = f x y ∷ both f xs ys

-- the two loads joined: their sum
abbrev pub plus : List ℕ → List ℕ → List ℕ
plus = both ◌+◌

-- the first load with the second taken out
abbrev pub less : List ℕ → List ℕ → List ℕ
less = both ◌-◌

-- the empty load
abbrev pub zeros : ℕ → List ℕ
zeros n = replicate n 0

-- h fits in x: x has at least the counts of h in each kind
abbrev pub Fits : List ℕ → List ℕ → Type 0
Fits [] [] = Unit {0}
Fits [] (x ∷ xs) = ⊥
Fits (h ∷ hs) [] = ⊥
Fits (h ∷ hs) (x ∷ xs) = (h ≤ x) × Fits hs xs

-- the grade: the sum of size times count
abbrev pub grade : List ℕ → List ℕ → ℕ
grade [] xs = 0
grade (s ∷ ss) [] = 0
grade (s ∷ ss) (x ∷ xs) = s * x + grade ss xs

-- x with one part of kind i (counted from 0) taken out
abbrev pub without_one : ℕ → List ℕ → List ℕ
without_one i x = set x i (get_or x i 0 - 1)
