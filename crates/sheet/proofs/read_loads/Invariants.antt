-- `sheet::read_loads` meets its contract. The loads stored so far and the text at the place say what the whole text says.
use Rattle.std.specs.Prelude.{◌≤◌, ◌-◌, ◌*◌, ◌≡◌, [], length, take, drop}
use Rattle.shapes.specs.Split.{split}
use Rattle.sheet.specs.Sheet.{load_lines}
use Rattle.sheet.proofs.read_loads.Given as goal

abbrev pub invariant-loop-at : goal.invariant-loop-at
invariant-loop-at l = (l.used ≤ 1024) × (length l.loads ≡ length l.initial.loads) × (load_lines l.n l.first l.used (take (l.used * l.n) l.loads) (split 10 (drop l.at l.text)) ≡ load_lines l.n l.first 0 [] (split 10 (drop l.from l.text)))

abbrev pub decreases-loop-at : goal.decreases-loop-at
decreases-loop-at l = 1024 - l.used
