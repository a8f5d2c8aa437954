use Rattle.std.proofs.Common.{[], ◌∷◌, ◌++◌, sym, ap, ◌∙◌, arith}
use Rattle.std.specs.Slice.Iter.{chunks_exact_rest}
use Rattle.grades.specs.declared.Stamped.{Stamped as Held}
use Rattle.complete.proofs.Chunks.{widened, stamped_same, one_read, all_read}
use Rattle.complete.proofs.Sheet.stamp_all.Goals as goal

pub loop-swap-preserved : goal.loop-swap-preserved
loop-swap-preserved c =
    let s = c.args.self.now in
    let n = s.kit.kinds in
    let l = c.loop-swap in
    let steps = c.in-Some.ensures.steps in
    let long = steps.1.1 ∙ l.invariant.0 in
    let sides = c.split_at.ensures in
    let left = widened n sides.front sides.front_len c.widen-left.ensures in
    let right = widened n sides.back (omega (arith, sides.back_len, long)) c.widen-right.ensures in
    let one = stamped_same n s.kit.bound c.args.sizes.now _ _ left right c.stamp_of-stamp.ensures in
    let items = c.push.ensures.items ∙ ap (λ (a : Held). l.sheet.items ++ (a ∷ [])) one in
    (steps.0 ∙ l.invariant.0, rw (sym items) at (one_read c.requires.0.0 l.invariant.1 c.in-Some.swap.now (chunks_exact_rest c.next.new.self) steps.1.0 long))

pub returns : goal.returns
returns c =
    let l = c.loop-swap in
    all_read c.requires.0.0 l.invariant.1 (omega (arith, l.invariant.0, c.in-None.ensures.steps.1.0))
