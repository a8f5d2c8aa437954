-- The place of complete's answer. Assumes nothing.
use Rattle.std.specs.Prelude.{ℕ, ◌≡◌, refl, Result, Ok, Err}
use Rattle.std.specs.Result.{result_unwrap_or}
use Rattle.terms.specs.declared.Refused.{Refused}
use Rattle.doors.specs.Answers.{answer_place, complete_place}

-- the rows, or else the place of the refusal
pub rows_or_place : (a : Result ℕ Refused) → result_unwrap_or a (answer_place a) ≡ complete_place a
rows_or_place (Ok rows) = refl
rows_or_place (Err refused) = refl
