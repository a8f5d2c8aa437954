-- What the functions over one line answer and leave, against the lines of a sheet.
use Rattle.std.specs.Prelude.{ℕ, ◌*◌, ◌≡◌, List, Bool, true, cond, map, not, eqb, ℤ, pos, ◌-ℤ◌, length, take, drop, Option, Some, None, Result, Ok, Err, ⊤}
use Rattle.std.proofs.Math.Option as math
use Rattle.terms.specs.declared.Kit.{Kit}
use Rattle.terms.specs.declared.Refused.{Refused}
use Rattle.terms.specs.declared.Refusal.TheVariants.{SameSides, UnequalGrades}
use Rattle.terms.specs.Answers.{refuse}
use Rattle.terms.specs.Load.{grade}
use Rattle.texts.specs.Number.{cap}
use Rattle.lines.specs.Fields.{same}
use Rattle.shapes.specs.Split.{Got, fine, wrong, split}
use Rattle.shapes.specs.Rows.{code_of, step_got, is_other, begun_in}
use Rattle.records.specs.declared.KitLine.{KitLine}
use Rattle.records.specs.Lines.{Pieces, all, within}

-- what the numbers of the kit line say, with the pieces after it
abbrev pub kit_said : Result Kit Refused → Pieces → Got (Kit × Pieces)
kit_said (Ok kit) rest = fine (kit, rest)
kit_said (Err refused) rest = wrong refused.why refused.place

-- the kit line's answer
abbrev pub kit_got : Result KitLine Refused → List ℕ → Got (Kit × Pieces)
kit_got (Ok line) s = fine (line.kit, split 10 (drop line.next s))
kit_got (Err refused) s = wrong refused.why refused.place

-- what a number in range stands for
abbrev pub ranged : {A : Type 0} → (ℕ → A) → ℕ → ℕ → ℕ → Option A
ranged reads least most v = cond (within least most v) (Some (reads v)) None

-- a row is stored at the front of a table, if each number is in range
pub record Stored {A : Type 0} (reads : ℕ → A) (least most : ℕ) (row : List ℕ) (r : Bool) (table : List A) : Type 0 where
  pub says : r ≡ all (within least most) row
  pub put : r ≡ true → take (length row) table ≡ map reads row

-- how a row keeps the numbers that fields are: each by a code, which is in range just where the number passes its test, and then
-- brings it back
pub record Coded {A : Type 0} (signed : Bool) (num : List ℕ → math.Option A) (test : A → Bool) (reads : ℕ → A) (least most : ℕ) : Type 0 where
  pub code : A → ℕ
  pub keeps : (field : List ℕ) → code_of signed field ≡ math.map code (num field)
  pub in_range : (a : A) → within least most (code a) ≡ test a
  pub back : (a : A) → test a ≡ true → reads (code a) ≡ a

-- the cost that stands in a row by its distance above -cap
abbrev pub cost_from : ℕ → ℤ
cost_from code = pos code -ℤ pos cap

-- one record more of a table of records of a width: what the line at a place of the text says, and the records before it stay
pub record Recorded (line w width used place : ℕ) (text before : List ℕ) (says : Got (List ℕ × Pieces)) (r : Result (Option ℕ) Refused) (table : List ℕ) : Type 0 where
  pub other : is_other r ≡ not (begun_in w (drop place text))
  pub is : says ≡ step_got line r (take width (drop (used * width) table)) text
  pub kept : take (used * width) table ≡ take (used * width) before

-- how a swap of those sides is answered
abbrev pub sides_step : ℕ → List ℕ → List ℕ → List ℕ → Result ⊤ Refused
sides_step line sizes left right =
    cond (same left right) (refuse SameSides line)
    (cond (eqb (grade sizes left) (grade sizes right)) (Ok tt) (refuse UnequalGrades line))
