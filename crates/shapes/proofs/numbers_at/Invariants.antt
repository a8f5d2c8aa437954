-- The numbers stored so far stand in front of what the text at the place says.
use Rattle.std.proofs.Common.{◌≡◌, ◌-◌, length, take, drop}
use Rattle.shapes.specs.Rows.{row_got}
use Rattle.shapes.proofs.Turns.{prepend}
use Rattle.shapes.proofs.numbers_at.Given as goal

abbrev pub invariant-loop-cell : goal.invariant-loop-cell
invariant-loop-cell l =
    prepend (take l.cell-index l.row) (row_got l.line l.signed (length l.initial.row - l.cell-index) (drop l.place l.text)) ≡ row_got l.line l.signed (length l.initial.row) (drop l.at l.text)
