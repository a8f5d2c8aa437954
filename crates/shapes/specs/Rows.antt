-- What the program keeps of a line: each number held at cap, a cost by its distance above -cap.
use Rattle.std.specs.Prelude.{ℕ, ◌+◌, ◌-◌, min, ◌≤◌, List, [], ◌∷◌, Bool, true, false, cond, ◌&&◌, eqb, length, drop, Some, None, Result, Ok, Err}
use Rattle.std.specs.Bool.{then_some}
use Rattle.std.specs.Prelude as std
use Rattle.std.proofs.Math.Option.{Option, none, some}
use Rattle.terms.specs.declared.Refusal.TheVariants.{BadLine}
use Rattle.terms.specs.declared.Refused.{Refused}
use Rattle.texts.specs.declared.Num.{Num}
use Rattle.texts.specs.Number.{number_of, piece, closed, cap, ending}
use Rattle.lines.specs.declared.Field.{Field}
use Rattle.lines.specs.declared.Field.TheVariants.{Word, Number, Minus, Feed}
use Rattle.lines.specs.Fields.{word_of}
use Rattle.shapes.specs.Split.{Got, fine, wrong, split, is_word, shape_by, read_line}

-- a field as the number that a row keeps
abbrev pub amount_of : Bool → std.Option Field → std.Option Num
amount_of sg None = None
amount_of sg (Some (Word w next)) = None
amount_of sg (Some (Number v next)) = cond sg (ending next (cap + v)) (ending next v)
amount_of sg (Some (Minus v next)) = cond sg (ending next (cap - v)) None
amount_of sg (Some (Feed next)) = None

-- the same of a field's bytes
abbrev pub less_code : Bool → Option ℕ → Option ℕ
less_code sg none = none
less_code sg (some v) = cond (eqb v 0) none (cond sg (some (cap - min cap v)) none)

abbrev pub more_code : Bool → Option ℕ → Option ℕ
more_code sg none = none
more_code sg (some v) = cond sg (some (cap + min cap v)) (some (min cap v))

abbrev pub code_of : Bool → List ℕ → Option ℕ
code_of sg [] = none
code_of sg (b ∷ p) = cond (eqb b 45) (less_code sg (number_of p)) (more_code sg (number_of (b ∷ p)))

abbrev pub is_empty : List ℕ → Bool
is_empty [] = true
is_empty (b ∷ l) = false

-- the numbers of a line after its word, of a text that stands there
abbrev pub row_got : ℕ → Bool → ℕ → List ℕ → Got (List ℕ × List (List ℕ))
row_got at sg k l = read_line at (shape_by is_empty (code_of sg) k) (split 10 l)

-- what a step says: the row with the pieces that follow, or the refusal; another word is misplaced
abbrev pub step_got : {A : Type 0} → ℕ → Result (std.Option ℕ) Refused → A → List ℕ → Got (A × List (List ℕ))
step_got at (Ok (Some next)) row s = fine (row, split 10 (drop next s))
step_got at (Ok None) row s = wrong BadLine at
step_got at (Err refused) row s = wrong refused.why refused.place

-- the step says that another word stands there
abbrev pub is_other : Result (std.Option ℕ) Refused → Bool
is_other (Ok (Some next)) = false
is_other (Ok None) = true
is_other (Err refused) = false

-- what the numbers of a line say, after its word
abbrev pub numbers_got : {A : Type 0} → Result ℕ Refused → A → List ℕ → Got (A × List (List ℕ))
numbers_got (Ok next) row s = fine (row, split 10 (drop next s))
numbers_got (Err refused) row s = wrong refused.why refused.place

-- the text begins with a field that is the word
abbrev pub begun_in : ℕ → List ℕ → Bool
begun_in w l = closed l && is_word w (word_of (piece l))

-- of a text that stands at a place: the place after its first field, if that is the word; and the place after the line feed that it begins with
abbrev pub after_word : ℕ → List ℕ → ℕ → std.Option ℕ
after_word w l at = then_some (begun_in w l) (at + length (piece l))

abbrev pub after_feed : List ℕ → ℕ → std.Option ℕ
after_feed [] at = None
after_feed (b ∷ l) at = then_some (eqb b 10) (at + 1)
