use Rattle.laws.specs.Order.{before_laws}
use Rattle.settle.specs.Going.{Run}
use Rattle.settle.proofs.Table.settle_proper.Given as goal

abbrev pub invariant-loop-r : goal.invariant-loop-r
invariant-loop-r l = Run l.self.kit.kinds l.self.kit.bound l.self.sizes.now l.self.rules.now l.self.rows l.initial.load l.load

abbrev pub decreases-loop-r : goal.decreases-loop-r
decreases-loop-r l = (before_laws l.self.costs.now l.self.kit.kinds).rank l.self.kit.bound l.load
