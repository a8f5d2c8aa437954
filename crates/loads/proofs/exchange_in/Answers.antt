use Rattle.std.specs.Prelude.{ℕ, ◌+◌, ◌-◌, ◌≤◌, ◌<◌, ◌≡◌, List, length, get_or}
use Rattle.std.proofs.Common.{ap, ◌∙◌, arith}
use Rattle.terms.specs.Load.{Fits}
use Rattle.terms.specs.Swaps.{exchange}
use Rattle.laws.specs.Load.{fits_at, up_to_at}
use Rattle.laws.specs.Exchange.{head_long, exchange_long, exchange_at}
use Rattle.laws.specs.Fill.{half, half_all, half_read, half_more}
use Rattle.loads.proofs.exchange_in.Goals as goal

-- what a turn reads and makes, where the load is y by now
module _ (h t x : List ℕ) (fit : Fits h x) (long : length t ≡ length x) (y : List ℕ) (k : ℕ) (l : k < length x) (e : y ≡ half (exchange h t x) x k) where
  now_at : get_or y k 0 ≡ get_or x k 0
  now_at = ap (λ (z : List ℕ). get_or z k 0) e ∙ half_read (exchange h t x) x k (exchange_long h t x fit long) l

  sub_ok : get_or h k 0 ≤ get_or y k 0
  sub_ok = omega (arith, now_at, fits_at h x k fit)

  turn_at : get_or y k 0 - get_or h k 0 + get_or t k 0 ≡ get_or (exchange h t x) k 0
  turn_at = omega (arith, now_at, exchange_at h t x fit long k l)

pub bounds-h-k : goal.bounds-h-k
bounds-h-k c =
    let a = c.args in
    omega (arith, head_long a.h.now a.t.now a.x.now c.requires.0 c.requires.1)

pub overflow_sub-count : goal.overflow_sub-count
overflow_sub-count c =
    let a = c.args in
    sub_ok a.h.now a.t.now a.x.now c.requires.0 c.requires.1 c.loop-k.x c.loop-k.k (omega arith) c.loop-k.invariant

pub overflow_add-count : goal.overflow_add-count
overflow_add-count c =
    let a = c.args in
    let made = turn_at a.h.now a.t.now a.x.now c.requires.0 c.requires.1 c.loop-k.x c.loop-k.k (omega arith) c.loop-k.invariant in
    omega (arith, made, up_to_at 65535 (exchange a.h.now a.t.now a.x.now) c.loop-k.k c.requires.2)

pub loop-k-preserved : goal.loop-k-preserved
loop-k-preserved c =
    let a = c.args in
    let long = exchange_long a.h.now a.t.now a.x.now c.requires.0 c.requires.1 in
    half_more (exchange a.h.now a.t.now a.x.now) a.x.now c.loop-k.x c.loop-k.k _ long (omega arith) c.loop-k.invariant
    (turn_at a.h.now a.t.now a.x.now c.requires.0 c.requires.1 c.loop-k.x c.loop-k.k (omega arith) c.loop-k.invariant)

pub returns : goal.returns
returns c =
    let a = c.args in
    let long = exchange_long a.h.now a.t.now a.x.now c.requires.0 c.requires.1 in
    c.loop-k.invariant ∙ half_all (exchange a.h.now a.t.now a.x.now) a.x.now c.loop-k.k (omega (arith, long)) (omega arith)
