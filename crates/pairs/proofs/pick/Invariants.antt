-- The candidates are picked from the rows below i.
use Rattle.std.proofs.Common.{map}
use Rattle.pairs.specs.Candidates.{Picked}
use Rattle.pairs.proofs.pick.Given as goal

abbrev pub invariant-loop-i : goal.invariant-loop-i
invariant-loop-i g l = Picked l.bound l.sizes (map g.R.Rowed.read_as l.table) l.j l.i l.picked.items
