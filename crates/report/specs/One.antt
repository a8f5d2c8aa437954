-- Of each line there is one: two lists of bytes that the definitions allow are the same.
use Rattle.std.specs.Prelude.{ℕ, ◌≡◌, refl, List, ◌++◌}
use Rattle.std.proofs.Common.{sym, ap, ap₂, ◌∙◌, inl, inr, arith}
use Rattle.terms.specs.Table.{Row}
use Rattle.bridge.specs.Settling.{settles_one}
use Rattle.print.specs.Lines.{done_line}
use Rattle.report.specs.Report.{LoadLine, Lines, none, more}

pub load_line_one : (bound : ℕ) (sizes : List ℕ) (table : List Row) (line : ℕ) (x a b : List ℕ) → LoadLine bound sizes table line x a → LoadLine bound sizes table line x b → a ≡ b
load_line_one bound sizes table line x a b (inl (p, (y, s, e))) (inl (q, (z, t, f))) = e ∙ ap done_line (settles_one s t) ∙ sym f
load_line_one bound sizes table line x a b (inl (p, e)) (inr (q, f)) = absurd (omega arith)
load_line_one bound sizes table line x a b (inr (p, e)) (inl (q, f)) = absurd (omega arith)
load_line_one bound sizes table line x a b (inr (p, e)) (inr (q, f)) = e ∙ sym f

pub lines_one : (Line : ℕ → List ℕ → Type 0) → ((k : ℕ) (a b : List ℕ) → Line k a → Line k b → a ≡ b) → {k : ℕ} {a b : List ℕ} → Lines Line k a → Lines Line k b → a ≡ b
lines_one Line one none none = refl
lines_one Line one (more {k = k} {last = q} ps l) (more {last = s} rs m) = ap₂ ◌++◌ (lines_one Line one ps rs) (one k q s l m)
