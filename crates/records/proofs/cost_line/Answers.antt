use Rattle.std.specs.Prelude.{ℕ, drop}
use Rattle.std.proofs.Common.{length-take-le}
use Rattle.shapes.specs.Split.{split, cost_of}
use Rattle.records.specs.Lines.{cost_fine, cost_line}
use Rattle.records.specs.Steps.{cost_from}
use Rattle.records.proofs.Codes as codes
use Rattle.records.proofs.Answers as answers
use Rattle.records.proofs.cost_line.Goals as goal

pub returns : goal.returns
returns c =
    let a = c.args in
    let e = c.numbers_line.ensures cost_of cost_fine cost_from 9000000 11000000 codes.costs (λ v r l p. p) in
    answers.fronted (λ (m : ℕ). cost_line m (split 10 (drop a.at a.text.now))) c.numbers_line.result a.text.now a.n _ c.numbers_line.new.table (drop a.n a.costs.now) e c.numbers_line.auto.table (length-take-le a.n a.costs.now c.requires.1)
