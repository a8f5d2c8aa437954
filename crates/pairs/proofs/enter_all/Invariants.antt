-- The rows below j have been entered.
use Rattle.pairs.specs.Flat.{FlatPairList}
use Rattle.pairs.proofs.enter_all.Given as goal

abbrev pub invariant-loop-j : goal.invariant-loop-j
invariant-loop-j l = FlatPairList l.bound l.sizes l.table l.j l.due l.mates l.listed
