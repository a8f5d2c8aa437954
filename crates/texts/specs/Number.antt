-- Numbers in text: decimal, with no leading zero.
use Rattle.std.specs.Prelude.{ℕ, suc, ◌+◌, ◌-◌, ◌*◌, min, List, [], ◌∷◌, Bool, true, false, cond, not, ◌&&◌, ◌||◌, leb, eqb, length, drop, Some, None}
use Rattle.std.specs.Prelude as std
use Rattle.std.proofs.Math.Option.{Option, none, some}
use Rattle.texts.specs.declared.Num.{Num}

abbrev pub is_digit : ℕ → Bool
is_digit b = leb 48 b && leb b 57

-- all are digits
unfoldable pub digits : List ℕ → Bool
digits [] = true
digits (b ∷ l) = cond (is_digit b) (digits l) false

-- something stands there, and no 0 in front of something
abbrev pub plain : List ℕ → Bool
plain [] = false
plain (b ∷ []) = true
plain (b ∷ (d ∷ l)) = not (eqb b 48)

-- the value of digits, after those whose value is v
unfoldable pub value_after : ℕ → List ℕ → ℕ
value_after v [] = v
value_after v (b ∷ l) = value_after (v * 10 + (b - 48)) l

-- the number that a field is, if it is one
abbrev pub number_of : List ℕ → Option ℕ
number_of p = cond (digits p && plain p) (some (value_after 0 p)) none

-- ## At a place of a text

-- a tab or a line feed
abbrev pub ends_field : ℕ → Bool
ends_field b = eqb b 9 || eqb b 10

-- what a text has before its first tab or line feed, and whether there is one
unfoldable pub piece : List ℕ → List ℕ
piece [] = []
piece (b ∷ l) = cond (ends_field b) [] (b ∷ piece l)

unfoldable pub closed : List ℕ → Bool
closed [] = false
closed (b ∷ l) = cond (ends_field b) true (closed l)

-- the bytes of the first field of a text, if a tab or a line feed ends it
abbrev pub ended : List ℕ → std.Option (List ℕ)
ended l = cond (closed l) (Some (piece l)) None

-- the program holds a number at cap, which is above every limit
abbrev pub cap : ℕ
cap = 10000000

abbrev pub held_value : Option ℕ → std.Option ℕ
held_value none = None
held_value (some v) = Some (min cap v)

-- a number whose field ends at a place
abbrev pub ending : ℕ → ℕ → std.Option Num
ending next v = Some (record { value = v; next = next })

abbrev pub held : ℕ → Option ℕ → std.Option Num
held next none = None
held next (some v) = ending next (min cap v)

-- the number that the field at a place is, and the place of the tab or line feed that ends it
abbrev pub number_in : List ℕ → ℕ → std.Option Num
number_in l at = cond (closed l) (held (at + length (piece l)) (number_of (piece l))) None

abbrev pub number_at : List ℕ → ℕ → std.Option Num
number_at s at = number_in (drop at s) at

-- ## The same as the loop goes

-- one digit more after those whose value is v
abbrev pub more : ℕ → ℕ → ℕ
more v b = min cap (v * 10 + (b - 48))

unfoldable pub run_from : ℕ → ℕ → List ℕ → std.Option Num
run_from v at [] = None
run_from v at (b ∷ l) = cond (ends_field b) (ending at v) (cond (is_digit b) (run_from (more v b) (suc at) l) None)
