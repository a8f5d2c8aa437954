-- The lines that the program prints, as lists of bytes.
use Rattle.std.specs.Prelude.{ℕ, zero, suc, ◌+◌, ◌*◌, ◌/◌, ◌%◌, ◌≤◌, cond, ◌≡◌, List, [], ◌∷◌, ◌++◌, ltb, length}
use Rattle.std.proofs.lemmas.List.Edits.{sets}

-- the decimal digits of n, the most significant first, with no leading zero; n has at most `more` digits besides the first
abbrev pub spelled : ℕ → ℕ → List ℕ
spelled zero n = (48 + n) ∷ []
spelled (suc more) n = cond (ltb n 10) ((48 + n) ∷ []) (spelled more (n / 10) ++ ((48 + n % 10) ∷ []))

unfoldable pub digits : ℕ → List ℕ
digits n = spelled n n

-- a tab and the number's digits
abbrev pub field : ℕ → List ℕ
field n = 9 ∷ digits n

-- what each element gives, one after the other
abbrev pub each : {A : Type 0} → (A → List ℕ) → List A → List ℕ
each f [] = []
each f (x ∷ xs) = f x ++ each f xs

abbrev pub fields : List ℕ → List ℕ
fields = each field

-- a line: its word, its numbers, a line feed
abbrev pub line : List ℕ → List ℕ → List ℕ
line letters numbers = letters ++ (fields numbers ++ (10 ∷ []))

-- the counts at the end of a line
abbrev pub counts_end : List ℕ → List ℕ
counts_end counts = fields counts ++ (10 ∷ [])

-- `rule`, the head's grade, the row; `done`, the load; `refused`, the reason's number, the line
abbrev pub rule_line : ℕ → List ℕ → List ℕ
rule_line grade row = line (114 ∷ 117 ∷ 108 ∷ 101 ∷ []) (grade ∷ row)

abbrev pub done_line : List ℕ → List ℕ
done_line load = line (100 ∷ 111 ∷ 110 ∷ 101 ∷ []) load

abbrev pub refused_line : ℕ → ℕ → List ℕ
refused_line why at = line (114 ∷ 101 ∷ 102 ∷ 117 ∷ 115 ∷ 101 ∷ 100 ∷ []) (why ∷ at ∷ [])

-- the greatest length of each line, by how many counts it has
abbrev pub rule_most : ℕ → ℕ
rule_most counts = 26 + 6 * counts

abbrev pub done_most : ℕ → ℕ
done_most counts = 5 + 6 * counts

abbrev pub refused_most : ℕ
refused_most = 50

-- from the place on there is room for the bytes, where there is room for so many in all
abbrev pub Room : List ℕ → ℕ → ℕ → Type 0
Room bytes place room = place + length bytes ≤ room

-- the bytes were appended: they stand after all that stood before, which is unchanged
abbrev pub Stored : List ℕ → List ℕ → List ℕ → Type 0
Stored bytes before after = after ≡ before ++ bytes

-- the bytes were stored from `at` on, nothing else was changed, and r is the place after them
pub record StoredAt (bytes : List ℕ) (at : ℕ) (before : List ℕ) (r : ℕ) (after : List ℕ) : Type 0 where
  pub next : r ≡ at + length bytes
  pub holds : after ≡ sets before at bytes
