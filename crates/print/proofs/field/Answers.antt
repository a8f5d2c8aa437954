use Rattle.std.proofs.Common.{[], ◌∷◌}
use Rattle.print.specs.Lines.{digits}
use Rattle.print.proofs.field.Goals as goal

pub returns-clause-stored : goal.returns-clause-stored
returns-clause-stored g c =
    g.met.P.Paper.stores_both (9 ∷ []) (digits c.args.n) c.args.out.now c.push.new.self c.number.new.out c.push.ensures.stored c.number.ensures.stored
