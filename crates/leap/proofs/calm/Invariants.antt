use Rattle.std.specs.Prelude.{◌≤◌}
use Rattle.leap.proofs.calm.Given as goal

abbrev pub invariant-loop-m : goal.invariant-loop-m
invariant-loop-m l = l.m ≤ l.more

abbrev pub decreases-loop-m : goal.decreases-loop-m
decreases-loop-m l = l.m
