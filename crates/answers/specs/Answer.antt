-- What the program writes, as a list of bytes.
use Rattle.std.specs.Prelude.{ℕ, ◌+◌, ◌*◌, ◌≤◌, ◌≡◌, List, ◌++◌, length, take, replicate, ℤ, pos, Ok, Err}
use Rattle.std.specs.Prelude as std
use Rattle.terms.specs.Load.{zeros}
use Rattle.terms.specs.Flat.{table_of}
use Rattle.terms.specs.Limits.{KindsFine, most_swaps, most_rows, most_loads}
use Rattle.terms.specs.Refusals.{number_of}
use Rattle.terms.specs.declared.Refused.{Refused}
use Rattle.sheet.specs.declared.Counts.{Counts}
use Rattle.sheet.specs.Sheet.{Result, Reads}
use Rattle.complete.specs.Call.{Completing}
use Rattle.print.specs.Lines.{refused_line}
use Rattle.report.specs.Report.{rule_lines, row_most, load_at, LoadLine, Lines, load_most}

-- what is written once the table is made: its rule lines and the lines of the loads, of which the first stands on line `first` of the sheet; or the refusal, at line 0
abbrev pub Made : ℕ → ℕ → List ℕ → List ℕ → ℕ → ℕ → std.Result ℕ Refused × List ℕ → List ℕ → Type 0
Made n bound sizes loads count first (Ok rows, rules) bytes =
    (rest : List ℕ)
    × Lines (λ i. LoadLine bound sizes (table_of n rules rows) (first + i) (load_at n loads i)) count rest
    × (bytes ≡ rule_lines sizes (table_of n rules rows) ++ rest)
Made n bound sizes loads count first (Err refused, rules) bytes = bytes ≡ refused_line (number_of refused.why) 0

-- what is written for a sheet that was read, with the room that is lent for its table
abbrev pub Show : ℕ → ℕ → List ℕ → List ℤ → List ℕ → List ℕ → List ℕ → ℕ → ℕ → List ℕ → Type 0
Show n bound sizes costs swaps room loads count first bytes =
    (o : std.Result ℕ Refused × List ℕ) × Completing n bound sizes costs swaps room o × Made n bound sizes loads count first o bytes

-- what is written once the text is read: the lines of its sheet, whose loads stand after the swaps, with 256 rows lent; or the refusal with its line
abbrev pub told_by : std.Result Counts Refused → Result → List ℕ → Type 0
told_by (Ok c) o bytes =
    Show c.kinds c.bound (take c.kinds o.sizes) (take c.kinds o.costs) (take (c.swaps * (2 * c.kinds)) o.swaps) (zeros (most_rows * (2 * c.kinds))) o.loads c.loads (4 + c.swaps) bytes
told_by (Err refused) o bytes = bytes ≡ refused_line (number_of refused.why) refused.place

-- what is written for a text
abbrev pub Answer : List ℕ → List ℕ → Type 0
Answer text bytes =
    (o : Result) × Reads text (zeros 12) (replicate 12 (pos 0)) (zeros 1536) (zeros 12288) o × told_by o.answer o bytes

-- the greatest length of all lines: 256 rows and 1,024 loads
abbrev pub out_most : ℕ
out_most = most_rows * row_most + most_loads * load_most

-- what the reader's counts are within
pub record Counted (c : Counts) : Type 0 where
  pub kinds : KindsFine c.kinds
  pub swaps : c.swaps ≤ most_swaps
  pub loads : c.loads ≤ most_loads
