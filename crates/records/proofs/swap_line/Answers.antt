use Rattle.std.specs.Prelude.{◌*◌, Result, Err, ⊤, length, take, drop, ◌≡◌}
use Rattle.std.proofs.Common.{arith, rules, sym, ap, ◌∙◌}
use Rattle.terms.specs.declared.Refused.{Refused}
use Rattle.terms.specs.Flat.{left_at, right_at}
use Rattle.shapes.specs.Split.{split}
use Rattle.records.proofs.Answers as answers
use Rattle.records.proofs.swap_line.Goals as goal

pub tested-requires : goal.tested-requires
tested-requires c =
    let a = c.args in
    let n = length a.sizes.now in
    let e = rw c.in-Some.is at c.in_ok-next.ensures in
    let h = answers.had_room a.line 3 (2 * n) a.used 64 (split 10 (drop a.at a.text.now)) _ e.is in
    let k = answers.record_in a.used 64 (2 * n) (length a.swaps.now) h c.requires.2 in
    let z = c.word_line.auto.table in
    (c.requires.0, omega arith)

pub returns-in_err-tested : goal.returns-in_err-tested
returns-in_err-tested c =
    let a = c.args in
    let n = length a.sizes.now in
    let x = c.word_line in
    let e = rw c.in-Some.is at c.in_ok-next.ensures in
    let r : c.from_residual-in_err-tested.result ≡ Err c.in_err-tested.field-0.0 = search rules in
    let row = take (2 * n) (drop (a.used * (2 * n)) x.new.table) in
    rw r (record {
      other = e.other;
      is = ap (answers.sided a.line n a.sizes.now) e.is ∙ (answers.swap_sides a.line n a.used a.sizes.now x.new.table (split 10 (drop c.in-Some.next a.text.now)) ∙ ap (λ (j : Result ⊤ Refused). answers.judged_got j (row, split 10 (drop c.in-Some.next a.text.now))) (sym (answers.judged a.line a.sizes.now (left_at n x.new.table a.used) (right_at n x.new.table a.used) _ c.in_err-tested.ensures)));
      kept = e.kept;
    })

pub returns : goal.returns
returns c =
    let a = c.args in
    let n = length a.sizes.now in
    let x = c.word_line in
    let e = rw c.in-Some.is at c.in_ok-next.ensures in
    let row = take (2 * n) (drop (a.used * (2 * n)) x.new.table) in
    record {
      other = e.other;
      is = ap (answers.sided a.line n a.sizes.now) e.is ∙ (answers.swap_sides a.line n a.used a.sizes.now x.new.table (split 10 (drop c.in-Some.next a.text.now)) ∙ ap (λ (j : Result ⊤ Refused). answers.judged_got j (row, split 10 (drop c.in-Some.next a.text.now))) (sym (answers.judged a.line a.sizes.now (left_at n x.new.table a.used) (right_at n x.new.table a.used) _ c.in_ok-tested.ensures)));
      kept = e.kept;
    }
