-- The sheet of kit A and its bytes, a line to a line; that it is written so and reads back is proved in `proofs/Worked`. Assumes nothing.
use Rattle.std.specs.Prelude.{ℕ, ◌≡◌, refl, List, [], ◌∷◌, pos, drop}
use Rattle.std.proofs.Common.{ap, arith, rules}
use Rattle.written.specs.Write.{Content, Within}

-- kit A with its two swaps, and the loads 0 2 0 1 and 0 0 0 4
abbrev pub sheet_a : Content
sheet_a =
    record {
      kinds = 4;
      bound = 12;
      sizes = 1 ∷ 2 ∷ 3 ∷ 4 ∷ [];
      costs = pos 0 ∷ pos 1 ∷ pos 0 ∷ pos 0 ∷ [];
      swaps =
          record { left = 1 ∷ 0 ∷ 1 ∷ 0 ∷ []; right = 0 ∷ 2 ∷ 0 ∷ 0 ∷ [] }
          ∷ record { left = 0 ∷ 1 ∷ 0 ∷ 1 ∷ []; right = 0 ∷ 0 ∷ 2 ∷ 0 ∷ [] } ∷ [];
      loads = (0 ∷ 2 ∷ 0 ∷ 1 ∷ []) ∷ (0 ∷ 0 ∷ 0 ∷ 4 ∷ []) ∷ [];
    }

-- its text, a line of the sheet to a line
abbrev pub bytes_a : List ℕ
bytes_a =
    107 ∷ 105 ∷ 116 ∷ 9 ∷ 52 ∷ 9 ∷ 49 ∷ 50 ∷ 10
    ∷ 115 ∷ 105 ∷ 122 ∷ 101 ∷ 9 ∷ 49 ∷ 9 ∷ 50 ∷ 9 ∷ 51 ∷ 9 ∷ 52 ∷ 10
    ∷ 99 ∷ 111 ∷ 115 ∷ 116 ∷ 9 ∷ 48 ∷ 9 ∷ 49 ∷ 9 ∷ 48 ∷ 9 ∷ 48 ∷ 10
    ∷ 115 ∷ 119 ∷ 97 ∷ 112 ∷ 9 ∷ 49 ∷ 9 ∷ 48 ∷ 9 ∷ 49 ∷ 9 ∷ 48 ∷ 9 ∷ 48 ∷ 9 ∷ 50 ∷ 9 ∷ 48 ∷ 9 ∷ 48 ∷ 10
    ∷ 115 ∷ 119 ∷ 97 ∷ 112 ∷ 9 ∷ 48 ∷ 9 ∷ 49 ∷ 9 ∷ 48 ∷ 9 ∷ 49 ∷ 9 ∷ 48 ∷ 9 ∷ 48 ∷ 9 ∷ 50 ∷ 9 ∷ 48 ∷ 10
    ∷ 108 ∷ 111 ∷ 97 ∷ 100 ∷ 9 ∷ 48 ∷ 9 ∷ 50 ∷ 9 ∷ 48 ∷ 9 ∷ 49 ∷ 10
    ∷ 108 ∷ 111 ∷ 97 ∷ 100 ∷ 9 ∷ 48 ∷ 9 ∷ 48 ∷ 9 ∷ 48 ∷ 9 ∷ 52 ∷ 10 ∷ []

-- loads that begin with other counts differ
other_head : (a b : ℕ) (x y : List ℕ) → a ∷ x ≡ b ∷ y → (a ≡ b → ⊥) → ⊥
other_head a b x y e n = n (cc)

pub within_a : Within sheet_a
within_a =
    record {
      kinds_fine = (omega arith, omega arith);
      bound_fine = (omega arith, omega arith);
      sized = refl;
      sizes_fine = search rules;
      costed = refl;
      costs_fine = search rules;
      swaps_few = omega arith;
      swaps_fine = (
        record { left_fine = search rules; right_fine = search rules; differ = λ e. other_head 1 0 _ _ e (λ z. omega arith); one_grade = refl },
        (record { left_fine = search rules; right_fine = search rules; differ = λ e. other_head 1 0 _ _ (ap (drop 1) e) (λ z. omega arith); one_grade = refl }, tt),
      );
      loads_few = omega arith;
      loads_fine = search rules;
    }
