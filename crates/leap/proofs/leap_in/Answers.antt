use Rattle.std.specs.Prelude.{ℕ, ◌+◌, ◌*◌, ◌-◌, ◌≤◌, ◌<◌, ◌≡◌, List, length, get_or}
use Rattle.std.proofs.Common.{ap, sym, subst, ◌∙◌, arith, add-mul}
use Rattle.laws.specs.Load.{UpTo, up_to_at}
use Rattle.laws.specs.Fill.{half, half_all, half_read, half_more}
use Rattle.leap.specs.Rounds.{went, wents, Rounds}
use Rattle.leap.specs.Way.{length_three, three_at, rounds_here}
use Rattle.leap.proofs.leap_in.Goals as goal

-- a turn, where the load is y by now
module _ (more : ℕ) (h t x : List ℕ) (hl : length h ≡ length x) (tl : length t ≡ length x) (enough : Rounds more h t x) (up_to : UpTo 65535 (wents (more + 1) h t x)) (y : List ℕ) (k : ℕ) (l : k < length x) (e : y ≡ half (wents (more + 1) h t x) x k) where
  now_at : get_or y k 0 ≡ get_or x k 0
  now_at = ap (λ (z : List ℕ). get_or z k 0) e ∙ half_read (wents (more + 1) h t x) x k (length_three (went (more + 1)) h t x hl tl) l

  turn_at : went (more + 1) (get_or h k 0) (get_or t k 0) (get_or y k 0) ≡ get_or (wents (more + 1) h t x) k 0
  turn_at =
      ap (went (more + 1) (get_or h k 0) (get_or t k 0)) now_at ∙ sym (three_at (went (more + 1)) h t x k hl tl l)

  taken : (more + 1) * (get_or h k 0 - get_or t k 0) ≤ get_or y k 0
  taken = omega (arith, now_at, rounds_here more h t x k hl tl l enough, add-mul more 1 (get_or h k 0 - get_or t k 0))

  small : went (more + 1) (get_or h k 0) (get_or t k 0) (get_or y k 0) ≤ 65535
  small = subst (λ (v : ℕ). v ≤ 65535) (sym turn_at) (up_to_at 65535 (wents (more + 1) h t x) k up_to)

pub went-requires : goal.went-requires
went-requires c =
    let a = c.args in
    let row = a.row.now in
    let loop = c.loop-k in
    let pre = c.requires in
    rw (c.of.ensures.0, c.of.ensures.1, c.of.ensures.2) (taken a.more row.head.now row.tail.now a.x.now pre.0 pre.1 pre.3 pre.4 loop.x loop.k (omega arith) loop.invariant, small a.more row.head.now row.tail.now a.x.now pre.0 pre.1 pre.3 pre.4 loop.x loop.k (omega arith) loop.invariant)

pub loop-k-preserved : goal.loop-k-preserved
loop-k-preserved c =
    let a = c.args in
    let row = a.row.now in
    let loop = c.loop-k in
    let pre = c.requires in
    let made = rw (c.of.ensures.0, c.of.ensures.1, c.of.ensures.2) at c.went.ensures in
    half_more (wents (a.more + 1) row.head.now row.tail.now a.x.now) a.x.now loop.x loop.k _ (length_three (went (a.more + 1)) row.head.now row.tail.now a.x.now pre.0 pre.1) (omega arith) loop.invariant
    (made ∙ turn_at a.more row.head.now row.tail.now a.x.now pre.0 pre.1 pre.3 pre.4 loop.x loop.k (omega arith) loop.invariant)

pub returns : goal.returns
returns c =
    let a = c.args in
    let row = a.row.now in
    let long = length_three (went (a.more + 1)) row.head.now row.tail.now a.x.now c.requires.0 c.requires.1 in
    c.loop-k.invariant ∙ half_all (wents (a.more + 1) row.head.now row.tail.now a.x.now) a.x.now c.loop-k.k (omega (arith, long)) (omega arith)
