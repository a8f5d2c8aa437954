use Rattle.std.specs.Prelude.{ℕ, drop}
use Rattle.std.proofs.Common.{arith, length-take-le}
use Rattle.texts.specs.Number.{number_of}
use Rattle.shapes.specs.Split.{split}
use Rattle.records.specs.Lines.{within, size_line}
use Rattle.records.proofs.Codes as codes
use Rattle.records.proofs.Answers as answers
use Rattle.records.proofs.size_line.Goals as goal

pub returns : goal.returns
returns c =
    let a = c.args in
    let e = c.numbers_line.ensures number_of (within 1 1000) (λ v. v) 1 1000 (codes.plain 1 1000 (omega arith) (omega arith)) (λ v r l p. p) in
    answers.fronted (λ (m : ℕ). size_line m (split 10 (drop a.at a.text.now))) c.numbers_line.result a.text.now a.n _ c.numbers_line.new.table (drop a.n a.sizes.now) e c.numbers_line.auto.table (length-take-le a.n a.sizes.now c.requires.1)
