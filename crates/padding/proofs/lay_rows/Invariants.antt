use Rattle.std.proofs.Common.{◌≡◌, length, take}
use Rattle.terms.specs.Flat.{filled}
use Rattle.rack.specs.Rows.{as_rows}
use Rattle.padding.specs.Resize.{resized}
use Rattle.padding.proofs.lay_rows.Given as goal

abbrev pub invariant-loop-r : goal.invariant-loop-r
invariant-loop-r l = l.rules ≡ filled (length l.initial.rules) (resized l.n (take l.r (as_rows l.table)))
