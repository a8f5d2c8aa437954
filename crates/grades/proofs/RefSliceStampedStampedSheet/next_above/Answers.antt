use Rattle.std.proofs.Common.{rules}
use Rattle.std.proofs.lemmas.Iterator.{YieldsList-from_slice, YieldsList-from_map}
use Rattle.std.proofs.lemmas.Iterator.Consumers.{YieldsList-at}
use Rattle.grades.specs.declared.Stamped.{Stamped}
use Rattle.grades.proofs.Whole.{next_of}
use Rattle.grades.proofs.RefSliceStampedStampedSheet.next_above.Goals as goal

pub returns : goal.returns
returns c = next_of c.next_above.ensures (YieldsList-from_map _ (λ (a : Stamped). a.stamp) (YieldsList-at c.map.ensures.source (YieldsList-from_slice c.args.self.now.now c.iter.ensures.rest)) c.map.ensures.closure (λ x r q k. search rules))
