use Rattle.std.specs.Prelude.{◌≡◌}
use Rattle.terms.specs.Swaps.{exchange}
use Rattle.laws.specs.Fill.{half}
use Rattle.loads.proofs.exchange_in.Given as goal

abbrev pub invariant-loop-k : goal.invariant-loop-k
invariant-loop-k l = l.x ≡ half (exchange l.h l.t l.initial.x) l.initial.x l.k
