-- The rows below j have been entered.
use Rattle.rack.specs.Rows.{as_rows}
use Rattle.pairs.specs.Pairs.{PairList}
use Rattle.pairs.proofs.enter_rows.Given as goal

abbrev pub invariant-loop-j : goal.invariant-loop-j
invariant-loop-j l = PairList l.bound l.sizes (as_rows l.table) l.j l.list.items
