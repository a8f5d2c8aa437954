use Rattle.std.proofs.Common.{take}
use Rattle.print.proofs.number.Given as goal

abbrev pub invariant-loop-k : goal.invariant-loop-k
invariant-loop-k g l = g.P.Paper.stored (take l.k l.text) l.initial.out l.out
