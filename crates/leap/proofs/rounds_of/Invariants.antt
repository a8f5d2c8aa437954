use Rattle.std.specs.Prelude.{ℕ, ◌+◌, ◌*◌, ◌-◌, ◌≤◌, ◌<◌, get_or}
use Rattle.leap.proofs.rounds_of.Given as goal

abbrev pub invariant-loop-k : goal.invariant-loop-k
invariant-loop-k l = (l.more ≤ 1000) × ((i : ℕ) → i < l.k → get_or l.row.head.now i 0 + l.more * (get_or l.row.head.now i 0 - get_or l.row.tail.now i 0) ≤ get_or l.x i 0)
