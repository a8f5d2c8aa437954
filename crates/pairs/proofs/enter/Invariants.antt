-- Each row below j within the bound is still a candidate, or has its pivot.
use Rattle.std.proofs.Common.{length, ◌+◌}
use Rattle.terms.specs.Flat.{table_of}
use Rattle.pairs.specs.Flat.{pairs_of}
use Rattle.pairs.proofs.Entering.{Entering}
use Rattle.pairs.proofs.enter.Given as goal

abbrev pub invariant-loop-pair : goal.invariant-loop-pair
invariant-loop-pair l = Entering l.bound l.sizes (table_of 12 l.table (l.j + 1)) l.j l.candidates.items (pairs_of l.due l.mates l.count)

abbrev pub decreases-loop-pair : goal.decreases-loop-pair
decreases-loop-pair l = length l.candidates.items
