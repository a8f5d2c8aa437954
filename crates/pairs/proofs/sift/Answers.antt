use Rattle.std.proofs.Common.{map, rules}
use Rattle.pairs.proofs.Entering.{sifted_by}
use Rattle.pairs.proofs.sift.Goals as goal

pub returns : goal.returns
returns g c = sifted_by (map g.R.Rowed.read_as c.args.table.now) c.args.p c.args.j c.requires.0 _ _ (λ x b f' y called. search rules) _ _ c.retain.ensures.filtered
