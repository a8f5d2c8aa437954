use Rattle.std.specs.Prelude.{◌+◌, ◌≡◌}
use Rattle.laws.specs.Fill.{half}
use Rattle.leap.specs.Rounds.{wents}
use Rattle.leap.proofs.leap_in.Given as goal

abbrev pub invariant-loop-k : goal.invariant-loop-k
invariant-loop-k l = l.x ≡ half (wents (l.more + 1) l.row.head.now l.row.tail.now l.initial.x) l.initial.x l.k
