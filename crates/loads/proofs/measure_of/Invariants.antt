use Rattle.std.specs.Prelude.{◌≡◌, ◌-◌, map, length, drop, ◌+ℤ◌}
use Rattle.terms.specs.Order.{cost}
use Rattle.loads.proofs.Measured.{Within}
use Rattle.loads.proofs.measure_of.Given as goal

-- the sum with what is left of the two lists gives the whole
abbrev pub invariant-loop-k : goal.invariant-loop-k
invariant-loop-k g l =
    record {
      left : l.sum +ℤ cost (map g.M.Measure.value (drop l.k l.measures)) (drop l.k l.x) ≡ cost (map g.M.Measure.value l.measures) l.x;
      within : Within l.sum (length l.x - l.k) (length l.x);
    }
