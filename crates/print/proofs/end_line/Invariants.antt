use Rattle.std.proofs.Common.{take}
use Rattle.print.specs.Lines.{fields}
use Rattle.print.proofs.end_line.Given as goal

abbrev pub invariant-loop-count : goal.invariant-loop-count
invariant-loop-count g l = g.P.Paper.stored (fields (take l.count-index l.counts)) l.initial.out l.out
