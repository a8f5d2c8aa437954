use Rattle.std.proofs.Common.{◌≡◌, ◌∙◌, arith, length}
use Rattle.terms.specs.Swaps.{exchange}
use Rattle.laws.specs.Load.{join}
use Rattle.laws.specs.Fill.{half_all, half_more}
use Rattle.grades.proofs.Counts.{made_long, made_at, made_small}
use Rattle.grades.proofs.make.Goals as goal

pub overflow_add-count : goal.overflow_add-count
overflow_add-count c =
    let a = c.args in
    omega (arith, made_small a.head.now a.tail.now a.q.now c.told-head c.told-tail c.told-q c.loop-k.k c.max.result (omega arith) c.max.ensures c.requires)

pub loop-k-preserved : goal.loop-k-preserved
loop-k-preserved c =
    let a = c.args in
    let long : length (exchange a.head.now a.tail.now (join a.head.now a.q.now)) ≡ 12 = made_long a.head.now a.tail.now a.q.now c.told-head c.told-tail c.told-q in
    half_more (exchange a.head.now a.tail.now (join a.head.now a.q.now)) _ c.loop-k.count-items c.loop-k.k _ long (omega arith) c.loop-k.invariant (made_at a.head.now a.tail.now a.q.now c.told-head c.told-tail c.told-q c.loop-k.k c.max.result (omega arith) c.max.ensures)

pub returns : goal.returns
returns c =
    let a = c.args in
    c.loop-k.invariant ∙ half_all (exchange a.head.now a.tail.now (join a.head.now a.q.now)) _ c.loop-k.k (omega (arith, made_long a.head.now a.tail.now a.q.now c.told-head c.told-tail c.told-q)) (omega arith)
