use Rattle.std.proofs.Common.{ℕ, subst, List, [], ◌∷◌, ◌++◌}
use Rattle.print.specs.Lines.{field, counts_end}
use Rattle.print.proofs.Runs.{rule_runs}
use Rattle.print.proofs.rule_line.Goals as goal

pub returns-clause-stored : goal.returns-clause-stored
returns-clause-stored g c =
    let a = c.args in
    let paper = g.met.P.Paper in
    subst (λ (bytes : List ℕ). g.P.Paper.stored bytes a.out.now c.end_line.new.out) (rule_runs a.grade a.row.now)
    (paper.stores_both (114 ∷ 117 ∷ 108 ∷ 101 ∷ []) (field a.grade ++ counts_end a.row.now) _ _ _ c.append.ensures.stored
    (paper.stores_both (field a.grade) (counts_end a.row.now) _ _ _ c.field.ensures.stored c.end_line.ensures.stored))
