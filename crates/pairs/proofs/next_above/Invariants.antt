-- The least so far, of the grades passed.
use Rattle.pairs.specs.Pairs.{NextAbove}
use Rattle.pairs.proofs.next_above.Given as goal

abbrev pub invariant-loop-due : goal.invariant-loop-due
invariant-loop-due g l = NextAbove l.yielded l.g l.limit l.best
