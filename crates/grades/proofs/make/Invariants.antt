-- The first k counts are made.
use Rattle.std.proofs.Common.{◌≡◌}
use Rattle.terms.specs.Swaps.{exchange}
use Rattle.laws.specs.Load.{join}
use Rattle.laws.specs.Fill.{half}
use Rattle.grades.proofs.make.Given as goal

abbrev pub invariant-loop-k : goal.invariant-loop-k
invariant-loop-k l = l.count-items ≡ half (exchange l.head l.tail (join l.head l.q)) l.initial.count-items l.k
