-- What is left of the sum, added to what was summed, is the grade.
use Rattle.std.specs.Iterator.Adapters.{zip_first, zip_second}
use Rattle.std.specs.Slice.Iter.{iter_rest}
use Rattle.terms.specs.Load.{grade}
use Rattle.laws.specs.Load.{join}
use Rattle.pairs.proofs.Common.{Summing}
use Rattle.pairs.proofs.common_grade.Given as goal

abbrev pub invariant-loop-size : goal.invariant-loop-size
invariant-loop-size l = Summing (iter_rest (zip_first (zip_first l.size-iterator))) (iter_rest (zip_second (zip_first l.size-iterator))) (iter_rest (zip_second l.size-iterator)) (grade l.sizes (join l.a l.b)) l.sum
