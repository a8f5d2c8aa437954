-- Every grade below g is done.
use Rattle.std.proofs.Common.{◌+◌, ◌-◌}
use Rattle.rack.specs.Rows.{as_rows}
use Rattle.grades.proofs.Whole.{Grading}
use Rattle.grades.proofs.Work.every_grade.Given as goal

abbrev pub invariant-loop-g : goal.invariant-loop-g
invariant-loop-g g l = Grading l.self.bound l.self.sizes.now l.self.weights.now (g.S.StampedSheet.sheet l.self.swaps) (g.S.StampedSheet.stamps l.self.swaps) l.self.room l.list.items (as_rows l.table.items) l.g

abbrev pub decreases-loop-g : goal.decreases-loop-g
decreases-loop-g g l = l.self.bound + 1 - l.g

abbrev pub ghost-one_grade : goal.ghost-one_grade
ghost-one_grade g a = a.self.now.weights.now
