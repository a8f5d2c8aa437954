-- One row applied many times: h taken out of x and t put in, round after round.
use Rattle.std.specs.Prelude.{ℕ, ◌+◌, ◌*◌, ◌-◌, ◌≤◌, ◌<◌, List, [], ◌∷◌}
use Rattle.terms.specs.Load.{Fits}
use Rattle.terms.specs.Flat.{left_at}

-- kind by kind, of three loads
abbrev pub three : (ℕ → ℕ → ℕ → ℕ) → List ℕ → List ℕ → List ℕ → List ℕ
three f [] ts xs = []
three f (h ∷ hs) [] xs = []
three f (h ∷ hs) (t ∷ ts) [] = []
three f (h ∷ hs) (t ∷ ts) (x ∷ xs) = f h t x ∷ three f hs ts xs

-- the count after c rounds, and the greatest on the way there
abbrev pub went : ℕ → ℕ → ℕ → ℕ → ℕ
went c h t x = x + c * (t - h) - c * (h - t)

abbrev pub top : ℕ → ℕ → ℕ → ℕ → ℕ
top c h t x = x + c * (t - h)

-- the load after c rounds, and the load of the greatest counts on the way there
abbrev pub wents : ℕ → List ℕ → List ℕ → List ℕ → List ℕ
wents c = three (went c)

abbrev pub tops : ℕ → List ℕ → List ℕ → List ℕ → List ℕ
tops c = three (top c)

-- after each of `more` rounds h still fits, so that more + 1 rounds can be done
abbrev pub Rounds : ℕ → List ℕ → List ℕ → List ℕ → Type 0
Rounds more [] ts xs = Unit {0}
Rounds more (h ∷ hs) [] xs = Unit {0}
Rounds more (h ∷ hs) (t ∷ ts) [] = Unit {0}
Rounds more (h ∷ hs) (t ∷ ts) (x ∷ xs) = (h + more * (h - t) ≤ x) × Rounds more hs ts xs

-- no row before r fits in the load of the greatest counts on the way, nor so in any load on the way
abbrev pub Calm : ℕ → List ℕ → ℕ → List ℕ → List ℕ → List ℕ → ℕ → Type 0
Calm n flat r h t x more = (k : ℕ) → k < r → Fits (left_at n flat k) (tops more h t x) → ⊥
