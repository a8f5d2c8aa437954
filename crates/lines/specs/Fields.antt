-- What stands at a place of a line: the word that begins it, a tab with a number, or the line feed.
use Rattle.std.specs.Prelude.{ℕ, ◌+◌, min, List, [], ◌∷◌, Bool, true, false, cond, eqb, length, drop, Some, None}
use Rattle.std.specs.Prelude as std
use Rattle.std.proofs.Math.Option.{Option, none, some}
use Rattle.texts.specs.Number.{number_of, ends_field, piece, closed, cap}
use Rattle.lines.specs.declared.Word.{Word}
use Rattle.lines.specs.declared.Word.TheVariants.{Kit, Size, Cost, Swap, Load}
use Rattle.lines.specs.declared.Field.{Field}
use Rattle.lines.specs.declared.Field.TheVariants as field

-- two runs of bytes are the same
unfoldable pub same : List ℕ → List ℕ → Bool
same [] [] = true
same [] (y ∷ ys) = false
same (x ∷ xs) [] = false
same (x ∷ xs) (y ∷ ys) = cond (eqb x y) (same xs ys) false

-- the five words: kit, size, cost, swap, load
abbrev pub kit_word : List ℕ
kit_word = 107 ∷ 105 ∷ 116 ∷ []

abbrev pub size_word : List ℕ
size_word = 115 ∷ 105 ∷ 122 ∷ 101 ∷ []

abbrev pub cost_word : List ℕ
cost_word = 99 ∷ 111 ∷ 115 ∷ 116 ∷ []

abbrev pub swap_word : List ℕ
swap_word = 115 ∷ 119 ∷ 97 ∷ 112 ∷ []

abbrev pub load_word : List ℕ
load_word = 108 ∷ 111 ∷ 97 ∷ 100 ∷ []

-- which word a field is
unfoldable pub which_word : List ℕ → std.Option Word
which_word p =
    cond (same p kit_word) (Some Kit)
    (cond (same p size_word) (Some Size)
    (cond (same p cost_word) (Some Cost)
    (cond (same p swap_word) (Some Swap)
    (cond (same p load_word) (Some Load) None))))

-- the words are numbered from 0
abbrev pub number_of_word : Word → ℕ
number_of_word Kit = 0
number_of_word Size = 1
number_of_word Cost = 2
number_of_word Swap = 3
number_of_word Load = 4

abbrev pub number_of_which : std.Option Word → Option ℕ
number_of_which None = none
number_of_which (Some w) = some (number_of_word w)

unfoldable pub word_of : List ℕ → Option ℕ
word_of p = number_of_which (which_word p)

-- ## At a place of a text

-- a word that ends at a place
abbrev pub worded : ℕ → std.Option Word → std.Option Field
worded next None = None
worded next (Some w) = Some (field.Word w next)

-- a number, and one after a minus, which is not 0; the program holds them at cap
abbrev pub numbered : ℕ → Option ℕ → std.Option Field
numbered next none = None
numbered next (some v) = Some (field.Number (min cap v) next)

abbrev pub lessened : ℕ → Option ℕ → std.Option Field
lessened next none = None
lessened next (some v) = cond (eqb v 0) None (Some (field.Minus (min cap v) next))

-- a field with a number, with a minus or without
abbrev pub signed : ℕ → List ℕ → std.Option Field
signed next [] = None
signed next (b ∷ p) = cond (eqb b 45) (lessened next (number_of p)) (numbered next (number_of (b ∷ p)))

-- of a text that stands at a place: its first field as a word, as a number, as what follows a minus
abbrev pub word_in : List ℕ → ℕ → std.Option Field
word_in l at = cond (closed l) (worded (at + length (piece l)) (which_word (piece l))) None

abbrev pub number_in : List ℕ → ℕ → std.Option Field
number_in l at = cond (closed l) (signed (at + length (piece l)) (piece l)) None

abbrev pub minus_in : List ℕ → ℕ → std.Option Field
minus_in l at = cond (closed l) (lessened (at + length (piece l)) (number_of (piece l))) None

abbrev pub field_in : List ℕ → ℕ → std.Option Field
field_in [] at = None
field_in (b ∷ l) at = cond (eqb b 9) (number_in l (at + 1)) (cond (eqb b 10) (Some (field.Feed (at + 1))) (word_in (b ∷ l) at))

-- what stands at a place of a text
abbrev pub field_at : List ℕ → ℕ → std.Option Field
field_at s at = field_in (drop at s) at

-- ## A word and a text, byte by byte

-- the first field is the word
unfoldable pub field_is : List ℕ → List ℕ → Bool
field_is [] [] = false
field_is [] (b ∷ l) = ends_field b
field_is (w ∷ ws) [] = false
field_is (w ∷ ws) (b ∷ l) = cond (eqb b w) (field_is ws l) false
