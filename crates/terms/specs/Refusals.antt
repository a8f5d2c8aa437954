-- The refusal numbers.
use Rattle.std.specs.Prelude.{ℕ}
use Rattle.terms.specs.declared.Refusal.{Refusal}
use Rattle.terms.specs.declared.Refusal.TheVariants.{Kinds, Bound, Length, Size, Cost, SameSides, UnequalGrades, NoRoom, BadRow, OverBound, BadLine, BigCount, LongText}

-- the number of each reason
abbrev pub number_of : Refusal → ℕ
number_of Kinds = 1
number_of Bound = 2
number_of Length = 3
number_of Size = 4
number_of Cost = 5
number_of SameSides = 6
number_of UnequalGrades = 7
number_of NoRoom = 8
number_of BadRow = 9
number_of OverBound = 10
number_of BadLine = 11
number_of BigCount = 12
number_of LongText = 13
