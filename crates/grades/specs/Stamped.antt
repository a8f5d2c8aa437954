-- The swaps that the program holds, each with its stamp.
use Rattle.std.specs.Prelude.{ℕ, List, map}
use Rattle.terms.specs.Swaps.{Swap}
use Rattle.grades.specs.declared.Stamped.{Stamped}

-- a swap that the program holds, read as a swap, and so the sheet of them
abbrev pub as_swap : Stamped → Swap
as_swap a = record { left = a.left; right = a.right }

abbrev pub as_sheet : List Stamped → List Swap
as_sheet = map as_swap

-- their stamps, in the same order
abbrev pub stamps_of : List Stamped → List ℕ
stamps_of = map (λ (a : Stamped). a.stamp)
