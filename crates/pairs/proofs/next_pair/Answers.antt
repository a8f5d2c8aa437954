use Rattle.std.proofs.Common.{arith, refl}
use Rattle.pairs.proofs.Entering.{contained}
use Rattle.pairs.proofs.next_pair.Goals as goal

pub sift-requires : goal.sift-requires
sift-requires g c = (omega (arith, c.from.ensures, c.requires.2 c.in_ok-pivot.pivot (contained c.deref.ensures.0 c.in_ok-pivot.ensures)), c.requires.1)

pub returns : goal.returns
returns g c = record { pivot = c.in_ok-pivot.pivot; among = contained c.deref.ensures.0 c.in_ok-pivot.ensures; paired = refl; sifted = rw c.from.ensures at c.sift.ensures }
