-- The shape of a text: lines ended by a line feed, each a word and numbers with a tab before each number.
use Rattle.std.specs.Prelude.{ℕ, zero, suc, List, [], ◌∷◌, Bool, false, cond, eqb, ℤ, pos, neg_ℤ}
use Rattle.std.proofs.Math.Option.{Option, none, some}
use Rattle.terms.specs.declared.Refusal.{Refusal}
use Rattle.terms.specs.declared.Refusal.TheVariants.{BadLine}
use Rattle.texts.specs.Number.{number_of}
use Rattle.lines.specs.Fields.{word_of}

-- what is read, or a refusal with its line
pub data Got (A : Type 0) : Type 0 where
  fine : A → Got A
  wrong : Refusal → ℕ → Got A

-- one byte more in front of the first piece
abbrev pub onto : ℕ → List (List ℕ) → List (List ℕ)
onto c [] = []
onto c (p ∷ ps) = (c ∷ p) ∷ ps

-- the pieces of a text between the bytes b, of which there is one more than there are such bytes
unfoldable pub split : ℕ → List ℕ → List (List ℕ)
split b [] = [] ∷ []
split b (c ∷ l) = cond (eqb c b) ([] ∷ split b l) (onto c (split b l))

abbrev pub first : List (List ℕ) → List ℕ
first [] = []
first (p ∷ ps) = p

abbrev pub rest : List (List ℕ) → List (List ℕ)
rest [] = []
rest (p ∷ ps) = ps

abbrev pub joined : {A : Type 0} → Option A → Option (List A) → Option (List A)
joined none vs = none
joined (some v) none = none
joined (some v) (some vs) = some (v ∷ vs)

-- the numbers that fields are, if each is one and there are k
unfoldable pub numbers : {A : Type 0} → (List ℕ → Option A) → ℕ → List (List ℕ) → Option (List A)
numbers num zero [] = some []
numbers num zero (f ∷ fs) = none
numbers num (suc k) [] = none
numbers num (suc k) (f ∷ fs) = joined (num f) (numbers num k fs)

-- the numbers of a line of k numbers, where its first field passes a test
abbrev pub shape_by : {A : Type 0} → (List ℕ → Bool) → (List ℕ → Option A) → ℕ → List ℕ → Option (List A)
shape_by test num k line = cond (test (first (split 9 line))) (numbers num k (rest (split 9 line))) none

abbrev pub is_word : ℕ → Option ℕ → Bool
is_word w none = false
is_word w (some v) = eqb v w

-- a line with the word of that number and k numbers
abbrev pub shaped : {A : Type 0} → ℕ → (List ℕ → Option A) → ℕ → List ℕ → Option (List A)
shaped w num k line = shape_by (λ f. is_word w (word_of f)) num k line

abbrev pub lined : {A : Type 0} → ℕ → Option A → List (List ℕ) → Got (A × List (List ℕ))
lined at o [] = wrong BadLine at
lined at none (m ∷ ls) = wrong BadLine at
lined at (some a) (m ∷ ls) = fine (a, m ∷ ls)

-- the line of a number, with the pieces after it; it is ended, so another piece follows it
abbrev pub read_line : {A : Type 0} → ℕ → (List ℕ → Option A) → List (List ℕ) → Got (A × List (List ℕ))
read_line at shape ps = lined at (shape (first ps)) (rest ps)

-- a cost: a number, and one other than 0 may have a minus before it
abbrev pub less : Option ℕ → Option ℤ
less none = none
less (some v) = cond (eqb v 0) none (some (neg_ℤ (pos v)))

abbrev pub more : Option ℕ → Option ℤ
more none = none
more (some v) = some (pos v)

abbrev pub cost_of : List ℕ → Option ℤ
cost_of [] = none
cost_of (b ∷ p) = cond (eqb b 45) (less (number_of p)) (more (number_of (b ∷ p)))
