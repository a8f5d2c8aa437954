use Rattle.std.proofs.Common.{[], ◌∷◌}
use Rattle.print.specs.Lines.{counts_end}
use Rattle.print.proofs.done_line.Goals as goal

pub returns-clause-stored : goal.returns-clause-stored
returns-clause-stored g c =
    g.met.P.Paper.stores_both (100 ∷ 111 ∷ 110 ∷ 101 ∷ []) (counts_end c.args.load.now) _ _ _ c.append.ensures.stored c.end_line.ensures.stored
