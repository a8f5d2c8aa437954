use Rattle.std.specs.Prelude.{ℕ, ◌≤◌, ◌≡◌, length}
use Rattle.std.proofs.Common.{sym, subst, ◌∙◌, arith}
use Rattle.laws.specs.Load.{up_to_at}
use Rattle.laws.specs.Fill.{half_all, half_more}
use Rattle.leap.specs.Rounds.{top, tops}
use Rattle.leap.specs.Way.{length_three, three_at}
use Rattle.leap.proofs.top_in.Goals as goal

pub top-requires : goal.top-requires
top-requires c =
    let a = c.args in
    let row = a.row.now in
    let k = c.loop-k.k in
    rw (c.of.ensures.0, c.of.ensures.1, c.of.ensures.2) (subst (λ (v : ℕ). v ≤ 65535) (three_at (top a.more) row.head.now row.tail.now a.x.now k c.requires.0 c.requires.1 (omega arith)) (up_to_at 65535 (tops a.more row.head.now row.tail.now a.x.now) k c.requires.3))

pub loop-k-preserved : goal.loop-k-preserved
loop-k-preserved c =
    let a = c.args in
    let row = a.row.now in
    let loop = c.loop-k in
    let long = length_three (top a.more) row.head.now row.tail.now a.x.now c.requires.0 c.requires.1 ∙ sym c.requires.2 in
    let made = rw (c.of.ensures.0, c.of.ensures.1, c.of.ensures.2) at c.top.ensures in
    half_more (tops a.more row.head.now row.tail.now a.x.now) a.y.now loop.y loop.k _ long (omega arith) loop.invariant
    (made ∙ sym (three_at (top a.more) row.head.now row.tail.now a.x.now loop.k c.requires.0 c.requires.1 (omega arith)))

pub returns : goal.returns
returns c =
    let a = c.args in
    let row = a.row.now in
    let long : length (tops a.more row.head.now row.tail.now a.x.now) ≡ length a.y.now = length_three (top a.more) row.head.now row.tail.now a.x.now c.requires.0 c.requires.1 ∙ sym c.requires.2 in
    c.loop-k.invariant ∙ half_all (tops a.more row.head.now row.tail.now a.x.now) a.y.now c.loop-k.k (omega arith) (omega arith)
