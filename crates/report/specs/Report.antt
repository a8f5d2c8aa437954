-- The lines of rule tables and of loads, as lists of bytes.
use Rattle.std.specs.Prelude.{ℕ, zero, suc, ◌+◌, ◌*◌, ◌<◌, ◌≤◌, ◌≡◌, ◌⊎◌, List, [], ◌++◌, length, take, drop}
use Rattle.terms.specs.Load.{grade}
use Rattle.terms.specs.Table.{Row}
use Rattle.terms.specs.Flat.{table_of}
use Rattle.terms.specs.Limits.{most_kinds}
use Rattle.terms.specs.Settling.{Settles}
use Rattle.settle.specs.Ready.{Ready}
use Rattle.settle.specs.declared.Table.{Table}
use Rattle.print.specs.Lines.{each, rule_line, done_line, refused_line, rule_most, done_most}

-- the line of a row, and the lines of a table
abbrev pub row_line : List ℕ → Row → List ℕ
row_line sizes a = rule_line (grade sizes a.head) (a.head ++ a.tail)

abbrev pub rule_lines : List ℕ → List Row → List ℕ
rule_lines sizes = each (row_line sizes)

-- the greatest length of a row's line: 24 counts
abbrev pub row_most : ℕ
row_most = rule_most 24

-- the rows of a table that are in use
abbrev pub rows_in : Table → List Row
rows_in t = table_of t.kit.kinds t.rules.now t.rows

-- so many rows lie within what is lent, for a kit of so many sizes
abbrev pub Holds : Table → ℕ → Type 0
Holds t rows = (length t.sizes.now ≡ t.kit.kinds) × (t.kit.kinds ≤ most_kinds) × (rows * (2 * t.kit.kinds) ≤ length t.rules.now)

-- a table to settle by
abbrev pub ReadyTable : Table → Type 0
ReadyTable t = Ready t.kit.kinds t.kit.bound t.sizes.now t.costs.now t.rules.now t.rows

-- load i of a flat list of loads
abbrev pub load_at : ℕ → List ℕ → ℕ → List ℕ
load_at n flat i = take n (drop (i * n) flat)

-- the line of a load x that stands on `line` of the sheet: done, with what the table settles x to; above the bound refused, 10 and `line`
abbrev pub LoadLine : ℕ → List ℕ → List Row → ℕ → List ℕ → List ℕ → Type 0
LoadLine bound sizes table line x bytes =
    ((grade sizes x ≤ bound) × ((y : List ℕ) × Settles table x y × (bytes ≡ done_line y))) ⊎ ((bound < grade sizes x) × (bytes ≡ refused_line 10 line))

-- the lines of the items 0 to k - 1, one after the other
pub data Lines (Line : ℕ → List ℕ → Type 0) : ℕ → List ℕ → Type 0 where
  none : Lines Line zero []
  more : {k : ℕ} {before last : List ℕ} → Lines Line k before → Line k last → Lines Line (suc k) (before ++ last)

-- such bytes were stored, as the paper says what that is
pub record Written {Paper : Type 0} (Stored : List ℕ → Paper → Paper → Type 0) (Right : List ℕ → Type 0) (before after : Paper) : Type 0 where
  pub bytes : List ℕ
  pub right : Right bytes
  pub stored : Stored bytes before after

-- the line of a load by a table, and the lines of so many loads of a flat list, of which the first stands on the given line
abbrev pub LineBy : Table → ℕ → List ℕ → List ℕ → Type 0
LineBy t line x = LoadLine t.kit.bound t.sizes.now (rows_in t) line x

abbrev pub LinesBy : Table → List ℕ → ℕ → ℕ → List ℕ → Type 0
LinesBy t loads first = Lines (λ i. LineBy t (first + i) (load_at t.kit.kinds loads i))

-- the greatest length of a load's line: 12 counts
abbrev pub load_most : ℕ
load_most = done_most 12
