-- How long the parts of a line are at most, for whoever lends the room: a count has at most five digits, and any number of the machine at most twenty. Assumes nothing.
use Rattle.std.proofs.Common.{ℕ, suc, ◌+◌, ◌*◌, ◌^◌, ◌≤◌, ◌<◌, List, [], ◌∷◌, length, get_or, Fits, w16, length-append, arith}
use Rattle.print.specs.Lines.{field, fields, counts_end}
use Rattle.print.proofs.Digits.{digits_most}

-- numbers of 64 and of 16 bits
pub field_most : (n : ℕ) → n < 2 ^ 64 → length (field n) ≤ 21
field_most n h = omega (arith, digits_most 20 n (omega arith) (omega arith) h)

count_most : (n : ℕ) → n < 65536 → length (field n) ≤ 6
count_most n h = omega (arith, digits_most 5 n (omega arith) (omega arith) (omega arith))

fields_most : (xs : List ℕ) → ((i : ℕ) → get_or xs i 0 < 65536) → length (fields xs) ≤ 6 * length xs
fields_most [] h = omega arith
fields_most (x ∷ xs) h =
    omega (arith, length-append (field x) (fields xs), count_most x (h 0), fields_most xs (λ i. h (suc i)))

pub counts_end_most : (xs : List ℕ) → ((i : ℕ) → Fits w16 (get_or xs i 0)) → length (counts_end xs) ≤ 1 + 6 * length xs
counts_end_most xs h = omega (arith, length-append (fields xs) (10 ∷ []), fields_most xs (λ i. omega (arith, h i)))
