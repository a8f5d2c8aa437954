use Rattle.std.proofs.Common.{◌+◌, ◌∙◌, arith}
use Rattle.pairs.proofs.Flat.{enterable_first}
use Rattle.pairs.proofs.enter_all.Goals as goal

pub enter-listed-requires : goal.enter-listed-requires
enter-listed-requires c =
    let a = c.args in
    let loop = c.loop-j in
    (enterable_first a.bound a.sizes.now a.table.now a.rows (loop.j + 1) (omega arith) c.requires.0, loop.auto.due ∙ c.requires.2, loop.auto.mates ∙ c.requires.3, loop.invariant)
