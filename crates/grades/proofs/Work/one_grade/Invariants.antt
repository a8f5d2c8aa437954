use Rattle.grades.proofs.Work.one_grade.Given as goal

abbrev pub ghost-settle_tails : goal.ghost-settle_tails
ghost-settle_tails g a = g.weights
