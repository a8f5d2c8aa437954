use Rattle.std.specs.Prelude.{ℕ, ◌≡◌, ◌<◌, ◌^◌, Option, take, drop, map}
use Rattle.records.specs.Lines.{all, within}
use Rattle.records.specs.Steps.{ranged}
use Rattle.records.proofs.stored.Given as goal

abbrev pub invariant-loop-i : goal.invariant-loop-i
invariant-loop-i g l =
    (reads : ℕ → _) (least most : ℕ) → ((v : ℕ) (r : Option _) → v < 2 ^ 32 → goal.F-post g l.fn.read v r → r ≡ ranged reads least most v)
    → (take l.i l.table ≡ map reads (take l.i l.row)) × (all (within least most) (drop l.i l.row) ≡ all (within least most) l.row)
