-- The flag says whether the counts so far were none too large.
use Rattle.std.specs.Iterator.Adapters.{zip_first, zip_second}
use Rattle.std.specs.Slice.Iter.{iter_rest}
use Rattle.laws.specs.Load.{join}
use Rattle.pairs.proofs.Common.{Covering}
use Rattle.pairs.proofs.covers.Given as goal

abbrev pub invariant-loop-count : goal.invariant-loop-count
invariant-loop-count l = Covering (iter_rest (zip_first (zip_first l.count-iterator))) (iter_rest (zip_second (zip_first l.count-iterator))) (iter_rest (zip_second l.count-iterator)) l.p (join l.a l.b) l.ok
