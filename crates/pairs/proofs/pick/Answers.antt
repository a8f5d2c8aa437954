use Rattle.std.proofs.Common.{◌≡◌, map, ap, ◌∙◌, arith, rules}
use Rattle.terms.specs.Load.{grade}
use Rattle.pairs.specs.Pairs.{common}
use Rattle.pairs.proofs.Common.{common_read, last_small_read, low_small_read}
use Rattle.pairs.proofs.Entering.{picked_past, picked_more}
use Rattle.pairs.proofs.pick.Goals as goal
use Rattle.pairs.proofs.pick.Goals.{then-grade-bound, else-grade-bound}

pub common_grade-grade-requires : goal.common_grade-grade-requires
common_grade-grade-requires g c =
    let p = c.requires in
    let last = last_small_read g.R.Rowed.read_as c.args.table.now c.args.j p.rows p.small_heads in
    let low = low_small_read g.R.Rowed.read_as c.args.table.now c.args.j p.rows p.small_heads _ c.loop-i.i (omega arith) c.loop-i-test.true in
    search (rules, last, low, c.row-item.is, c.index-table-j.is, c.head.ensures, c.head-in-loop-i.ensures, p.small_sizes.up_to)

pub loop-i-preserved : goal.loop-i-preserved
loop-i-preserved g c =
    let a = c.args in
    let loop = c.loop-i in
    let T = map g.R.Rowed.read_as a.table.now in
    let held = common_read g.R.Rowed.read_as a.table.now a.j c.requires.rows _ loop.i c.row-item.result c.row-item.is (omega arith) c.loop-i-test.true c.index-table-j.result c.index-table-j.is in
    let is : c.common_grade-grade.result ≡ grade a.sizes.now (common T loop.i a.j) = c.common_grade-grade.ensures ∙ ap (grade a.sizes.now) (rw (c.head.ensures, c.head-in-loop-i.ensures) held) in
    elim c.if-grade-bound.branch [
      | then-grade-bound w ↦ rw (w.picked-is, w.push.ensures.items) (picked_more a.bound a.sizes.now T a.j loop.i loop.picked.items loop.invariant c.common_grade-grade.result is)
      | else-grade-bound w ↦ rw w.picked-is (picked_past a.bound a.sizes.now T a.j loop.i loop.picked.items loop.invariant (omega (arith, is)))
    ]
