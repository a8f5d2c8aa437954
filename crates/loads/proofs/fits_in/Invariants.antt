use Rattle.laws.specs.Walk.{FitsSoFar}
use Rattle.loads.proofs.fits_in.Given as goal

-- The flag says whether the counts so far were none too large.
abbrev pub invariant-loop-k : goal.invariant-loop-k
invariant-loop-k l = FitsSoFar l.h l.x l.fits l.k
