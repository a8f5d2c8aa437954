use Rattle.std.proofs.Common.{ℕ, subst, List, [], ◌∷◌, ◌++◌}
use Rattle.print.specs.Lines.{field, counts_end}
use Rattle.print.proofs.Runs.{refused_runs}
use Rattle.print.proofs.refused_line.Goals as goal

pub returns-clause-stored : goal.returns-clause-stored
returns-clause-stored g c =
    let a = c.args in
    let paper = g.met.P.Paper in
    subst (λ (bytes : List ℕ). g.P.Paper.stored bytes a.out.now c.end_line.new.out) (refused_runs a.why a.line)
    (paper.stores_both (114 ∷ 101 ∷ 102 ∷ 117 ∷ 115 ∷ 101 ∷ 100 ∷ []) (field a.why ++ (field a.line ++ counts_end [])) _ _ _ c.append.ensures.stored
    (paper.stores_both (field a.why) (field a.line ++ counts_end []) _ _ _ c.field.ensures.stored
    (paper.stores_both (field a.line) (counts_end []) _ _ _ c.field-2.ensures.stored c.end_line.ensures.stored)))
