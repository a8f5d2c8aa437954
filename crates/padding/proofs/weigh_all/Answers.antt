use Rattle.std.proofs.Common.{sym, ap, ◌∙◌, arith, length, get_or, replicate}
use Rattle.laws.specs.Fill.{half_more}
use Rattle.padding.specs.Widen.{weight, weights}
use Rattle.padding.specs.Kinds.{cost_read, weights_long, weight_here}
use Rattle.padding.proofs.Weights.{weights_filled}
use Rattle.padding.proofs.weigh_all.Goals as goal

pub loop-k-preserved : goal.loop-k-preserved
loop-k-preserved c =
    let sizes = c.args.sizes.now in
    let costs = c.args.costs.now in
    let n = length sizes in
    let l = c.loop-k in
    let fine = c.requires in
    let read = c.weigh.ensures ∙ ap (weight (get_or sizes l.k 0)) (cost_read n sizes costs fine l.k (omega arith)) ∙ sym (weight_here n sizes costs fine l.k (omega arith)) in
    half_more (weights n sizes costs) (replicate 12 c.weigh-weights.result) l.weights l.k c.weigh.result (weights_long n sizes costs fine) (omega (arith, fine.few)) l.invariant read

pub returns : goal.returns
returns c =
    let l = c.loop-k in
    l.invariant ∙ weights_filled (length c.args.sizes.now) c.args.sizes.now c.args.costs.now c.requires c.weigh-weights.result l.k c.weigh-weights.ensures (omega arith)
