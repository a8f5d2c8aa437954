-- What is written on any paper, from the answers of complete and of the reader. Assumes nothing.
use Rattle.std.proofs.Common.{ℕ, ◌+◌, ◌≡◌, refl, sym, subst, List, ◌++◌, replicate, ℤ, pos}
use Rattle.std.specs.Prelude.{Ok, Err}
use Rattle.std.specs.Prelude as std
use Rattle.terms.specs.declared.Refused.{Refused}
use Rattle.terms.specs.Load.{zeros}
use Rattle.terms.specs.Flat.{table_of}
use Rattle.terms.specs.Refusals.{number_of}
use Rattle.sheet.specs.declared.Counts.{Counts}
use Rattle.sheet.specs.Sheet.{Result, Reads}
use Rattle.complete.specs.Call.{Completing}
use Rattle.print.specs.Lines.{refused_line}
use Rattle.report.specs.Report.{rule_lines, load_at, LoadLine, Lines, Written}
use Rattle.answers.specs.Answer.{Made, Show, told_by, Answer}

-- the lines of a sheet that was read, from the answer of complete
module _ (Paper : Type 0) (Stored : List ℕ → Paper → Paper → Type 0) (n bound : ℕ) (sizes : List ℕ) (costs : List ℤ) (swaps room rules loads : List ℕ) (count first : ℕ) {a : std.Result ℕ Refused} (made : Completing n bound sizes costs swaps room (a, rules)) where
  pub shown_rows : {rows : ℕ} (o o' o'' : Paper) → ((a b : List ℕ) (o p q : Paper) → Stored a o p → Stored b p q → Stored (a ++ b) o q) → a ≡ Ok rows → Stored (rule_lines sizes (table_of n rules rows)) o o' → Written Stored (Lines (λ i. LoadLine bound sizes (table_of n rules rows) (first + i) (load_at n loads i)) count) o' o'' → Written Stored (Show n bound sizes costs swaps room loads count first) o o''
  shown_rows {rows} o o' o'' both e p q =
      let table = rule_lines sizes (table_of n rules rows) in
      let bytes = table ++ q.bytes in
      record {
        bytes = bytes;
        right = ((a, rules), made, subst (λ (b : std.Result ℕ Refused). Made n bound sizes loads count first (b, rules) bytes) (sym e) (q.bytes, q.right, refl));
        stored = both table q.bytes o o' o'' p q.stored;
      }

  pub shown_refused : {refused : Refused} (number : ℕ) (o o' : Paper) → a ≡ Err refused → number ≡ number_of refused.why → Stored (refused_line number 0) o o' → Written Stored (Show n bound sizes costs swaps room loads count first) o o'
  shown_refused {refused} number o o' e f p =
      let bytes = refused_line (number_of refused.why) 0 in
      record {
        bytes = bytes;
        right = ((a, rules), made, subst (λ (b : std.Result ℕ Refused). Made n bound sizes loads count first (b, rules) bytes) (sym e) refl);
        stored = subst (λ (k : ℕ). Stored (refused_line k 0) o o') f p;
      }

-- what the program writes, from what the reader answered and left
module _ (Paper : Type 0) (Stored : List ℕ → Paper → Paper → Type 0) (text sizes : List ℕ) (costs : List ℤ) (swaps loads : List ℕ) {a : std.Result Counts Refused} (read : Reads text (zeros 12) (replicate 12 (pos 0)) (zeros 1536) (zeros 12288) (record { answer = a; sizes = sizes; costs = costs; swaps = swaps; loads = loads })) where
  left : std.Result Counts Refused → Result
  left b = record { answer = b; sizes = sizes; costs = costs; swaps = swaps; loads = loads }

  pub answer_sheet : {c : Counts} {before after : Paper} → a ≡ Ok c → Written Stored (told_by (Ok c) (record { answer = Ok c; sizes = sizes; costs = costs; swaps = swaps; loads = loads })) before after → Written Stored (Answer text) before after
  unfolding left
  answer_sheet e p = record {
    bytes = p.bytes;
    right = (left a, read, subst (λ (b : std.Result Counts Refused). told_by b (left b) p.bytes) (sym e) p.right);
    stored = p.stored;
  }

  pub answer_refused : {refused : Refused} (number : ℕ) (before after : Paper) → a ≡ Err refused → number ≡ number_of refused.why → Stored (refused_line number refused.place) before after → Written Stored (Answer text) before after
  unfolding left
  answer_refused {refused} number before after e f p =
      let bytes = refused_line (number_of refused.why) refused.place in
      record {
        bytes = bytes;
        right = (left a, read, subst (λ (b : std.Result Counts Refused). told_by b (left b) bytes) (sym e) refl);
        stored = subst (λ (k : ℕ). Stored (refused_line k refused.place) before after) f p;
      }
