use Rattle.std.proofs.Common.{arith}
use Rattle.std.proofs.lemmas.List.{length-map}
use Rattle.rack.specs.Rows.{as_row}
use Rattle.grades.proofs.Ends.{tails_none, tails_asked, tails_turn, tails_end}
use Rattle.grades.proofs.settle_tails.Goals as goal

pub loop-r-init : goal.loop-r-init
loop-r-init g c = tails_none (omega (arith, c.requires.1, length-map c.args.table.now as_row))

pub settle_row_tail-requires : goal.settle_row_tail-requires
settle_row_tail-requires g c = (tails_asked c.loop-r.invariant c.requires.0.3 c.requires.0.4, omega arith)

pub loop-r-preserved : goal.loop-r-preserved
loop-r-preserved g c = tails_turn c.loop-r.invariant (omega (arith, length-map c.args.table.now as_row)) c.settle_row_tail.ensures

pub returns : goal.returns
returns g c = tails_end c.loop-r.invariant (omega (arith, length-map c.args.table.now as_row))
