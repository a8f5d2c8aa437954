-- The swaps passed are joined.
use Rattle.rack.specs.Rows.{as_rows}
use Rattle.grades.proofs.Going.{SwapsGoing}
use Rattle.grades.proofs.Work.join_swaps.Given as goal

abbrev pub invariant-loop-k : goal.invariant-loop-k
invariant-loop-k g l = SwapsGoing l.self.weights.now (g.S.StampedSheet.sheet l.self.swaps) (g.S.StampedSheet.stamps l.self.swaps) l.g (as_rows l.initial.table.items) l.self.room (as_rows l.table.items) l.k
