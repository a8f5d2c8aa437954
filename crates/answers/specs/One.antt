-- The program writes one thing: two lists of bytes that the definitions allow for a text are the same.
use Rattle.std.specs.Prelude.{ℕ, ◌+◌, ◌≡◌, List, ◌++◌, ℤ, Ok, Err}
use Rattle.std.specs.Prelude as std
use Rattle.std.proofs.Common.{sym, ap, subst, ◌∙◌}
use Rattle.terms.specs.Flat.{table_of}
use Rattle.terms.specs.declared.Refused.{Refused}
use Rattle.sheet.specs.Sheet.{Result}
use Rattle.sheet.proofs.One.{reads_one}
use Rattle.sheet.specs.declared.Counts.{Counts}
use Rattle.promises.specs.Promises.{one_completion}
use Rattle.report.specs.Report.{rule_lines, load_at, LoadLine}
use Rattle.report.specs.One.{load_line_one, lines_one}
use Rattle.answers.specs.Answer.{Made, Show, told_by, Answer}

module _ (n bound : ℕ) (sizes loads : List ℕ) (count first : ℕ) where
  made_one : (o : std.Result ℕ Refused × List ℕ) (a b : List ℕ) → Made n bound sizes loads count first o a → Made n bound sizes loads count first o b → a ≡ b
  made_one (Ok rows, rules) a b (p, ps, e) (q, qs, f) =
      let table = table_of n rules rows in
      e
      ∙ ap (λ (l : List ℕ). rule_lines sizes table ++ l) (lines_one (λ i. LoadLine bound sizes table (first + i) (load_at n loads i)) (λ k. load_line_one bound sizes table (first + k) (load_at n loads k)) ps qs)
      ∙ sym f
  made_one (Err refused, rules) a b e f = e ∙ sym f

show_one : (n bound : ℕ) (sizes : List ℕ) (costs : List ℤ) (swaps room loads : List ℕ) (count first : ℕ) (a b : List ℕ) → Show n bound sizes costs swaps room loads count first a → Show n bound sizes costs swaps room loads count first b → a ≡ b
show_one n bound sizes costs swaps room loads count first a b (o, c, m) (p, d, k) =
    made_one n bound sizes loads count first p a b (subst (λ (q : std.Result ℕ Refused × List ℕ). Made n bound sizes loads count first q a) (one_completion n bound sizes costs swaps room o p c d) m) k

told_one : (r : std.Result Counts Refused) (o : Result) (a b : List ℕ) → told_by r o a → told_by r o b → a ≡ b
told_one (Ok c) o a b p q = show_one c.kinds c.bound _ _ _ _ o.loads c.loads _ a b p q
told_one (Err refused) o a b e f = e ∙ sym f

pub answer_one : (text a b : List ℕ) → Answer text a → Answer text b → a ≡ b
answer_one text a b (o, r, t) (p, s, u) =
    told_one p.answer p a b (subst (λ (q : Result). told_by q.answer q a) (reads_one text _ _ _ _ o p r s) t) u
