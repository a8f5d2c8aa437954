-- A row of a flat table as one part, and its line. Assumes nothing.
use Rattle.std.proofs.Common.{ℕ, ◌+◌, ◌*◌, ◌-◌, ◌≡◌, ap, ap₂, ◌∙◌, List, ◌++◌, take, drop, take-add, drop-drop, arith}
use Rattle.terms.specs.Load.{grade}
use Rattle.terms.specs.Flat.{left_at, right_at, row_at}
use Rattle.laws.specs.Flat.{part_is}
use Rattle.print.specs.Lines.{rule_line}
use Rattle.report.specs.Report.{row_line}

-- the part that holds row r is its two sides
pub row_part : (n : ℕ) (flat : List ℕ) (r : ℕ) → take (r * (2 * n) + 2 * n - r * (2 * n)) (drop (r * (2 * n)) flat) ≡ left_at n flat r ++ right_at n flat r
row_part n flat r =
    let two : 2 * n ≡ n + n = omega arith in
    part_is flat (r * (2 * n)) (2 * n)
    ∙ ap (λ (k : ℕ). take k (drop (r * (2 * n)) flat)) two
    ∙ take-add n n (drop (r * (2 * n)) flat)
    ∙ ap (λ (l : List ℕ). left_at n flat r ++ take n l) (drop-drop n (r * (2 * n)) flat)

-- a line with the grade of the left side, and that part, is the row's
pub line_of_row : (n : ℕ) (sizes flat : List ℕ) (r g : ℕ) (head : List ℕ) → head ≡ left_at n flat r → g ≡ grade sizes head → rule_line g (take (r * (2 * n) + 2 * n - r * (2 * n)) (drop (r * (2 * n)) flat)) ≡ row_line sizes (row_at n flat r)
line_of_row n sizes flat r g head left e = ap₂ rule_line (e ∙ ap (grade sizes) left) (row_part n flat r)
