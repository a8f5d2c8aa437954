use Rattle.std.specs.Prelude.{nat_abs}
use Rattle.std.proofs.Common.{ap, ◌∙◌, arith}
use Rattle.laws.specs.Machine.{reads_pos}
use Rattle.laws.specs.Order.{cost_grade}
use Rattle.loads.proofs.grade_of.Goals as goal

pub overflow_cast-result : goal.overflow_cast-result
overflow_cast-result c =
    let r = c.measure_of.result in
    let is = reads_pos r _ (c.measure_of.ensures ∙ cost_grade c.args.sizes.now c.args.x.now) c.measure_of.type_inv in
    let read = is.0 in
    rw read (tt, omega (arith, is.1))

pub returns : goal.returns
returns c =
    let r = c.measure_of.result in
    let is = reads_pos r _ (c.measure_of.ensures ∙ cost_grade c.args.sizes.now c.args.x.now) c.measure_of.type_inv in
    ap nat_abs is.0
