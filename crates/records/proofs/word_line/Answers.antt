use Rattle.std.specs.Prelude.{◌*◌, length, take, drop, ◌≡◌, refl, Err}
use Rattle.std.proofs.Common.{arith, rules, sym, ap, ◌∙◌, length-take-le}
use Rattle.terms.specs.declared.Refused.{Refused}
use Rattle.lines.specs.Fields.{number_of_word}
use Rattle.shapes.specs.Split.{split, wrong}
use Rattle.records.proofs.Codes as codes
use Rattle.records.proofs.Answers as answers
use Rattle.records.proofs.word_line.Goals as goal

pub returns-in_err-next : goal.returns-in_err-next
returns-in_err-next c =
    let a = c.args in
    let e = c.in_err-next.ensures in
    let r : c.from_residual.result ≡ Err c.in_err-next.field-0.0 = search rules in
    rw r (record {
      other = e.0;
      is = answers.counts_wrong a.line (number_of_word a.word) a.width a.used a.room _ (codes.part_of_24 a.width c.requires.0) (split 10 (drop a.at a.text.now)) _ _ e.1;
      kept = refl;
    })

pub returns-in_default : goal.returns-in_default
returns-in_default c =
    let a = c.args in
    let e = rw c.in_default.is at c.in_ok-next.ensures in
    record {
      other = e.0;
      is = answers.counts_wrong a.line (number_of_word a.word) a.width a.used a.room _ (codes.part_of_24 a.width c.requires.0) (split 10 (drop a.at a.text.now)) _ _ e.1;
      kept = refl;
    }

pub returns-then-room-used : goal.returns-then-room-used
returns-then-room-used c =
    let a = c.args in
    let e = rw c.in-Some.is at c.in_ok-next.ensures in
    record {
      other = e.0;
      is = answers.counts_full a.line (number_of_word a.word) a.width a.used a.room _ (codes.part_of_24 a.width c.requires.0) (split 10 (drop a.at a.text.now)) _ _ e.1 c.if-room-used.true ∙ ap (λ (r : Refused). wrong r.why r.place) (sym c.at.ensures);
      kept = refl;
    }

pub returns-then-not-stored : goal.returns-then-not-stored
returns-then-not-stored c =
    let a = c.args in
    let e = rw c.in-Some.is at c.in_ok-next.ensures in
    let h = answers.record_in a.used a.room a.width (length a.table.now) c.if-room-used.false c.requires.2 in
    record {
      other = e.0;
      is = answers.counts_big a.line (number_of_word a.word) a.width a.used a.room _ (codes.part_of_24 a.width c.requires.0) (split 10 (drop a.at a.text.now)) _ _ e.1 c.if-room-used.false c.stored.result c.stored.new.table (c.stored.ensures (λ v. v) 0 65535 (λ v r l p. p)) c.if-not-stored.true ∙ ap (λ (r : Refused). wrong r.why r.place) (sym c.at-then-not-stored.ensures);
      kept = answers.written_kept (a.used * a.width) a.table.now c.stored.new.table (omega arith);
    }

pub returns : goal.returns
returns c =
    let a = c.args in
    let e = rw c.in-Some.is at c.in_ok-next.ensures in
    let h = answers.record_in a.used a.room a.width (length a.table.now) c.if-room-used.false c.requires.2 in
    let long = codes.part_of_24 a.width c.requires.0 in
    record {
      other = e.0;
      is = answers.counts_fine a.line (number_of_word a.word) a.width a.used a.room _ long (split 10 (drop a.at a.text.now)) _ _ e.1 c.if-room-used.false c.stored.result c.stored.new.table (c.stored.ensures (λ v. v) 0 65535 (λ v r l p. p)) c.if-not-stored.false (take (a.used * a.width) a.table.now) _ (c.word_line_at.auto.row ∙ long) (let k = answers.part_long (a.used * a.width) a.table.now c.stored.new.table (omega arith) c.stored.auto.table in omega arith) (length-take-le (a.used * a.width) a.table.now (omega arith)) (answers.written_after (a.used * a.width) a.table.now c.stored.new.table (omega arith) c.stored.auto.table);
      kept = answers.written_kept (a.used * a.width) a.table.now c.stored.new.table (omega arith);
    }
