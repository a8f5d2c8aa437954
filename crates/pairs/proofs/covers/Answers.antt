use Rattle.std.proofs.Common.{sym, ◌∙◌}
use Rattle.laws.specs.Load.{join_left}
use Rattle.pairs.proofs.covers.Goals as goal

pub returns-clause-own : goal.returns-clause-own
returns-clause-own c = join_left c.args.p.now c.args.b.now (c.told-p ∙ sym c.told-b)
