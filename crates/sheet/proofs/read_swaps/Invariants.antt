-- `sheet::read_swaps` meets its contract. The swaps stored so far and the text at the place say what the whole text says.
use Rattle.std.specs.Prelude.{◌≤◌, ◌-◌, ◌*◌, ◌≡◌, [], length, take, drop}
use Rattle.shapes.specs.Split.{split}
use Rattle.sheet.specs.Sheet.{swap_lines}
use Rattle.sheet.proofs.read_swaps.Given as goal

abbrev pub invariant-loop-at : goal.invariant-loop-at
invariant-loop-at l = (l.used ≤ 64) × (length l.swaps ≡ length l.initial.swaps) × (swap_lines (length l.sizes) l.sizes l.used (take (l.used * (2 * length l.sizes)) l.swaps) (split 10 (drop l.at l.text)) ≡ swap_lines (length l.sizes) l.sizes 0 [] (split 10 (drop l.from l.text)))

abbrev pub decreases-loop-at : goal.decreases-loop-at
decreases-loop-at l = 64 - l.used
