use Rattle.std.proofs.Common.{◌≡◌, length}
use Rattle.terms.specs.Flat.{filled, table_of}
use Rattle.padding.specs.Resize.{resized}
use Rattle.padding.proofs.resize_rows.Given as goal

abbrev pub invariant-loop-r : goal.invariant-loop-r
invariant-loop-r l = l.out ≡ filled (length l.initial.out) (resized l.m (table_of l.n l.flat l.r))
