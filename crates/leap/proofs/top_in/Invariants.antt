use Rattle.std.specs.Prelude.{◌≡◌}
use Rattle.laws.specs.Fill.{half}
use Rattle.leap.specs.Rounds.{tops}
use Rattle.leap.proofs.top_in.Given as goal

abbrev pub invariant-loop-k : goal.invariant-loop-k
invariant-loop-k l = l.y ≡ half (tops l.more l.row.head.now l.row.tail.now l.x) l.initial.y l.k
