-- The rows passed are laid.
use Rattle.rack.specs.Rows.{as_rows}
use Rattle.grades.proofs.Laying.{Laying}
use Rattle.grades.proofs.lay.Given as goal

abbrev pub invariant-loop-r : goal.invariant-loop-r
invariant-loop-r l = Laying (as_rows l.rows) l.initial.flat l.r l.flat
