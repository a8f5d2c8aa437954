use Rattle.std.proofs.Common.{subst, List, ℕ, rules}
use Rattle.report.proofs.Rows.{line_of_row}
use Rattle.report.proofs.rule_at.Goals as goal

pub returns-clause-stored : goal.returns-clause-stored
returns-clause-stored g c =
    let a = c.args in
    let t = a.table.now in
    subst (λ (bytes : List ℕ). g.P.Paper.stored bytes a.out.now c.rule_line.new.out)
    (line_of_row t.kit.kinds t.sizes.now t.rules.now a.r c.grade_of-grade.result c.left_of.result.now (search rules) c.grade_of-grade.ensures)
    c.rule_line.ensures.stored
