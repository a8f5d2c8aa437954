-- The tails of the rows from base up to before r are settled.
use Rattle.rack.specs.Rows.{as_rows}
use Rattle.grades.proofs.Ends.{TailsGoing}
use Rattle.grades.proofs.settle_tails.Given as goal

abbrev pub invariant-loop-r : goal.invariant-loop-r
invariant-loop-r g l = TailsGoing g.weights (as_rows l.initial.table) l.base (as_rows l.table) l.r

abbrev pub ghost-settle_row_tail : goal.ghost-settle_row_tail
ghost-settle_row_tail g a = g.weights
