use Rattle.std.proofs.Common.{ℕ, List, inl, inr, rules, arith, min, sym, subst, ◌≡◌, ◌∙◌}
use Rattle.pairs.specs.Pairs.{NextAbove}
use Rattle.pairs.proofs.Laws.{next_above_more}
use Rattle.pairs.proofs.next_above.Goals as goal
use Rattle.pairs.proofs.next_above.Goals.{then-g-grade, else-g-grade}

-- of the number that is kept, however it came to be the lesser
kept : (grades : List ℕ) (g limit best taken now : ℕ) → now ≡ min best taken → NextAbove grades g limit (min best taken) → NextAbove grades g limit now
kept grades g limit best taken now is so = subst (NextAbove grades g limit) (sym is) so

pub loop-due-preserved : goal.loop-due-preserved
loop-due-preserved g c =
    let same : c.from-grade.result ≡ c.in-Some.due = search rules in
    kept _ c.args.g c.args.limit c.loop-due.best c.if-g-grade.taken _ (omega arith) (next_above_more c.loop-due.yielded c.args.g c.args.limit c.loop-due.best c.in-Some.due c.if-g-grade.taken c.requires.below c.loop-due.invariant (elim c.if-g-grade.branch [ then-g-grade w ↦ inl (rw same at w.if-g-grade.true, w.taken-is ∙ same) | else-g-grade w ↦ inr (rw same at w.if-g-grade.false, w.taken-is) ]))
