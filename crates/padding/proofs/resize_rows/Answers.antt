use Rattle.std.proofs.Common.{◌∙◌, ap₂, List, length, ℕ}
use Rattle.laws.specs.Flat.{row_in}
use Rattle.padding.specs.Resize.{sides_over, resize_flat}
use Rattle.padding.proofs.resize_rows.Goals as goal

pub loop-r-preserved : goal.loop-r-preserved
loop-r-preserved c =
    let a = c.args in
    let l = c.loop-r in
    let room = row_in a.m a.rows l.r (length a.out.now) c.loop-r-test.true c.requires.1 in
    c.lay_sides.ensures
    ∙ ap₂ (λ (x y : List ℕ). sides_over a.m x y l.r l.out) c.row_of.ensures.head.0 c.row_of.ensures.tail.0
    ∙ resize_flat a.n a.m (length a.out.now) a.flat.now l.r room l.out l.invariant
