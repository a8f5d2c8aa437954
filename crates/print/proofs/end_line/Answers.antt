use Rattle.std.proofs.Common.{ℕ, subst, List, [], ◌∷◌, get_or, take}
use Rattle.print.specs.Lines.{field, fields}
use Rattle.print.proofs.Runs.{each_room, each_next}
use Rattle.print.proofs.end_line.Goals as goal

pub field-requires : goal.field-requires
field-requires g c =
    let l = c.loop-count in
    let before = fields (take l.count-index c.args.counts.now) in
    rw (c.from.ensures, g.met.P.Paper.keeps_room before c.args.out.now l.out l.invariant)
    (each_room field c.args.counts.now l.count-index c.loop-count-test.true (10 ∷ []) _ _ _ (g.met.P.Paper.moves_place before c.args.out.now l.out l.invariant) c.requires)

pub loop-count-preserved : goal.loop-count-preserved
loop-count-preserved g c =
    let l = c.loop-count in
    let before = fields (take l.count-index c.args.counts.now) in
    let this = field (get_or c.args.counts.now l.count-index 0) in
    subst (λ (bytes : List ℕ). g.P.Paper.stored bytes c.args.out.now c.field.new.out) (each_next field c.args.counts.now l.count-index c.loop-count-test.true)
    (g.met.P.Paper.stores_both before this c.args.out.now l.out c.field.new.out l.invariant (rw c.from.ensures at c.field.ensures.stored))
