-- Costs as they are written read back as them, and no byte of one is a tab or a line feed. Assumes nothing.
use Rattle.std.specs.Prelude.{ℕ, suc, ◌<◌, ◌≡◌, ℤ, pos, negsuc}
use Rattle.std.proofs.Common.{ap, ◌∙◌, arith, ne_eqb}
use Rattle.std.proofs.Math.Option.{some}
use Rattle.shapes.specs.Split.{less, cost_of}
use Rattle.print.specs.Lines.{digits}
use Rattle.written.specs.Write.{cost_digits}
use Rattle.written.specs.Parts.{Free}
use Rattle.written.specs.Spelled.{written, number_back, more_back, number_free}

pub cost_back : (z : ℤ) → cost_of (cost_digits z) ≡ some z
cost_back (pos v) = more_back v (digits v) (written v).all (number_back v)
cost_back (negsuc v) = ap less (number_back (suc v)) ∙ rw (ne_eqb (suc v) 0 (λ e. omega arith))

pub cost_free : (b : ℕ) → b < 45 → (z : ℤ) → Free b (cost_digits z)
cost_free b h (pos v) = number_free b h v
cost_free b h (negsuc v) = (ne_eqb 45 b (λ e. omega arith), number_free b h (suc v))
