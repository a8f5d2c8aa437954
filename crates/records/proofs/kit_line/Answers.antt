use Rattle.std.specs.Prelude.{◌≡◌, refl, Err}
use Rattle.std.proofs.Common.{rules, arith, ◌∙◌}
use Rattle.shapes.specs.Split.{split}
use Rattle.records.proofs.Codes as codes
use Rattle.records.proofs.Answers as answers
use Rattle.records.proofs.kit_line.Goals as goal

pub returns-in_err-next : goal.returns-in_err-next
returns-in_err-next c = rw (codes.not_read (codes.plain 1 1000 (omega arith) (omega arith)) 1 0 2 2 refl (split 10 c.args.text.now) _ _ c.in_err-next.ensures) (search rules)

pub returns-in_err-kit : goal.returns-in_err-kit
returns-in_err-kit c =
    let r : c.from_residual-in_err-kit.result ≡ Err c.in_err-kit.field-0.0 = search rules in
    rw r (answers.kit_tested (split 10 c.args.text.now) _ _ c.in_ok-next.ensures _ _ refl refl ∙ c.in_err-kit.ensures _)

pub returns : goal.returns
returns c = answers.kit_tested (split 10 c.args.text.now) _ _ c.in_ok-next.ensures _ _ refl refl ∙ c.in_ok-kit.ensures _
