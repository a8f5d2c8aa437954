-- The pairs passed are joined.
use Rattle.std.proofs.Common.{take}
use Rattle.rack.specs.Rows.{as_rows}
use Rattle.grades.proofs.Listed.{PairsGoing}
use Rattle.grades.proofs.Work.join_pairs.Given as goal

abbrev pub invariant-loop-pair : goal.invariant-loop-pair
invariant-loop-pair g l = PairsGoing l.self.weights.now l.list l.g (as_rows l.initial.table.items) l.self.room (as_rows l.table.items) (take l.pair-index l.list)
