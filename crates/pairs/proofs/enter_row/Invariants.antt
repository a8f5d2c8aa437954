-- Each row below j within the bound is still a candidate, or has its pivot.
use Rattle.std.proofs.Common.{length}
use Rattle.rack.specs.Rows.{as_rows}
use Rattle.pairs.proofs.Entering.{Entering}
use Rattle.pairs.proofs.enter_row.Given as goal

abbrev pub invariant-loop-pair : goal.invariant-loop-pair
invariant-loop-pair l = Entering l.bound l.sizes (as_rows l.table) l.j l.candidates.items l.list.items

abbrev pub decreases-loop-pair : goal.decreases-loop-pair
decreases-loop-pair l = length l.candidates.items
