use Rattle.std.proofs.Common.{◌≡◌, length}
use Rattle.laws.specs.Fill.{half}
use Rattle.padding.specs.Widen.{weights}
use Rattle.padding.proofs.weigh_all.Given as goal

abbrev pub invariant-loop-k : goal.invariant-loop-k
invariant-loop-k l = l.weights ≡ half (weights (length l.sizes) l.sizes l.costs) l.initial.weights l.k
