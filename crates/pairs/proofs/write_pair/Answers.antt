use Rattle.std.proofs.Common.{arith, rules}
use Rattle.pairs.proofs.Flat.{pairs_more}
use Rattle.pairs.proofs.write_pair.Goals as goal

pub returns : goal.returns
returns c =
    let a = c.args in
    pairs_more a.due.now a.mates.now a.pairs a.pair _ (omega (arith, c.from.ensures, c.from-2.ensures)) (search rules) c.requires.0 c.requires.1
