use Rattle.std.proofs.Common.{◌≡◌, ◌+◌, ◌≤◌, drop}
use Rattle.texts.specs.Number.{cap, run_from}
use Rattle.texts.proofs.run_at.Given as goal

abbrev pub invariant-loop-i : goal.invariant-loop-i
invariant-loop-i l = record { held : l.value ≤ cap; same : run_from l.value (l.at + l.i) (drop l.i l.rest) ≡ run_from 0 l.at l.rest }
