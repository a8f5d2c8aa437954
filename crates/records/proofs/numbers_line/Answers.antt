use Rattle.std.specs.Prelude.{length, drop, List}
use Rattle.std.proofs.Common.{arith, rules, sym, ap, ◌∙◌, take_all}
use Rattle.terms.specs.declared.Refused.{Refused}
use Rattle.lines.specs.Fields.{number_of_word}
use Rattle.shapes.specs.Split.{fine, wrong, split}
use Rattle.records.proofs.Codes as codes
use Rattle.records.proofs.numbers_line.Goals as goal

pub returns-in_err-next : goal.returns-in_err-next
returns-in_err-next g c = λ num test reads least most coded h.
    let a = c.args in
    let e = codes.not_read coded a.line (number_of_word a.word) (length a.table.now) _ (codes.part_of_12 _ c.requires.room) (split 10 (drop a.at a.text.now)) _ _ c.in_err-next.ensures in
    rw e (search rules)

pub returns-then-not-stored : goal.returns-then-not-stored
returns-then-not-stored g c = λ num test reads least most coded h.
    let a = c.args in
    codes.out_of_range coded a.line (number_of_word a.word) (length a.table.now) _ (codes.part_of_12 _ c.requires.room) (split 10 (drop a.at a.text.now)) _ _ c.in_ok-next.ensures a.why a.line c.stored.result c.stored.new.table (c.stored.ensures reads least most h) c.if-not-stored.true
    ∙ ap (λ (r : Refused). wrong r.why r.place) (sym c.at.ensures)

pub returns : goal.returns
returns g c = λ num test reads least most coded h.
    let a = c.args in
    let long = codes.part_of_12 _ c.requires.room in
    codes.in_range coded a.line (number_of_word a.word) (length a.table.now) _ long (split 10 (drop a.at a.text.now)) _ _ c.in_ok-next.ensures a.why a.line c.stored.result c.stored.new.table (c.stored.ensures reads least most h) c.if-not-stored.false
    ∙ ap (λ (l : List _). fine (l, split 10 (drop c.in_ok-next.next a.text.now))) (take_all (length c.due_line.new.row) c.stored.new.table (let k = c.due_line.auto.row in let j = c.stored.auto.table in omega arith))
