-- The lines of a sheet: what each has to be, and the refusal with its line where it is not. Shape goes before every other test.
use Rattle.std.specs.Prelude.{ℕ, ◌*◌, List, [], ◌∷◌, Bool, true, false, cond, not, ◌&&◌, leb, ltb, eqb, ℤ, nat_abs, get_or, take, drop}
use Rattle.terms.specs.declared.Kit.{Kit}
use Rattle.terms.specs.declared.Refusal.{Refusal}
use Rattle.terms.specs.declared.Refusal.TheVariants.{Kinds, Bound, Length, Size, Cost, SameSides, UnequalGrades, BigCount}
use Rattle.terms.specs.Load.{grade}
use Rattle.terms.specs.Limits.{most_kinds, most_bound, most_size, most_cost, most_swaps, most_count}
use Rattle.texts.specs.Number.{number_of}
use Rattle.lines.specs.Fields.{same}
use Rattle.shapes.specs.Split.{Got, fine, wrong, shaped, read_line, cost_of}

-- where a text's lines that are not read yet stand, as its pieces between line feeds
abbrev pub Pieces : Type 0
Pieces = List (List ℕ)

-- what is read goes on, a refusal stays
abbrev pub after : {A B : Type 0} → Got A → (A → Got B) → Got B
after (fine a) f = f a
after (wrong reason at) f = wrong reason at

-- a test, with the refusal where it fails
abbrev pub ask : {A : Type 0} → Bool → Refusal → ℕ → Got A → Got A
ask t reason at g = cond t g (wrong reason at)

abbrev pub within : ℕ → ℕ → ℕ → Bool
within least most v = leb least v && leb v most

unfoldable pub all : {A : Type 0} → (A → Bool) → List A → Bool
all test [] = true
all test (a ∷ l) = cond (test a) (all test l) false

-- line 1: kit, n and B
abbrev pub kit_of : ℕ → ℕ → Pieces → Got (Kit × Pieces)
kit_of n b ps = ask (within 1 most_kinds n) Kinds 1 (ask (within 1 most_bound b) Bound 1 (fine (record { kinds = n; bound = b }, ps)))

abbrev pub kit_line : Pieces → Got (Kit × Pieces)
kit_line ps = after (read_line 1 (shaped 0 number_of 2) ps) (λ r. kit_of (get_or r.0 0 0) (get_or r.0 1 0) r.1)

-- line 2: size and n numbers
abbrev pub size_line : ℕ → Pieces → Got (List ℕ × Pieces)
size_line n ps = after (read_line 2 (shaped 1 number_of n) ps) (λ r. ask (all (within 1 most_size) r.0) Size 2 (fine r))

-- line 3: cost and n numbers, which may be negative
abbrev pub cost_fine : ℤ → Bool
cost_fine z = leb (nat_abs z) most_cost

abbrev pub cost_line : ℕ → Pieces → Got (List ℤ × Pieces)
cost_line n ps = after (read_line 3 (shaped 2 cost_of n) ps) (λ r. ask (all cost_fine r.0) Cost 3 (fine r))

-- a line of counts, where `used` of `room` records stand already
abbrev pub counts_line : ℕ → ℕ → ℕ → ℕ → ℕ → Pieces → Got (List ℕ × Pieces)
counts_line at w width used room ps =
    after (read_line at (shaped w number_of width) ps)
    (λ r. ask (ltb used room) Length at (ask (all (within 0 most_count) r.0) BigCount at (fine r)))

-- a swap: its left and its right side differ, and have one grade
abbrev pub sides_of : ℕ → ℕ → List ℕ → List ℕ × Pieces → Got (List ℕ × Pieces)
sides_of at n sizes r =
    ask (not (same (take n r.0) (drop n r.0))) SameSides at
    (ask (eqb (grade sizes (take n r.0)) (grade sizes (drop n r.0))) UnequalGrades at (fine r))

abbrev pub swap_line : ℕ → ℕ → List ℕ → ℕ → Pieces → Got (List ℕ × Pieces)
swap_line at n sizes used ps = after (counts_line at 3 (2 * n) used most_swaps ps) (sides_of at n sizes)
