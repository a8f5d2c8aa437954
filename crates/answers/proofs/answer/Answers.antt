use Rattle.std.proofs.Common.{arith}
use Rattle.sheet.specs.Sheet.{Result}
use Rattle.answers.proofs.Writing.{answer_refused}
use Rattle.answers.proofs.Passed.{reading_counted}
use Rattle.answers.proofs.answer.Goals as goal

pub sheet_lines-requires : goal.sheet_lines-requires
sheet_lines-requires g c =
    let read = c.read_sheet in
    let left : Result = record { answer = read.result; sizes = read.new.sizes; costs = read.new.costs; swaps = read.new.swaps; loads = read.new.loads } in
    (reading_counted c.args.text.now left c.in-Ok.counts read.ensures c.in-Ok.is, c.requires)

pub returns-in-Err : goal.returns-in-Err
returns-in-Err g c =
    let read = c.read_sheet in
    let line = c.refused_line.ensures in
    record {
      written = answer_refused _ g.P.Paper.stored c.args.text.now read.new.sizes read.new.costs read.new.swaps read.new.loads read.ensures c.number_of.result _ _ c.in-Err.is c.number_of.ensures line.stored;
      upper_bound = omega (arith, line.upper_bound);
      in_room = omega (arith, c.requires, line.upper_bound, g.met.P.Paper.keeps_room _ _ _ line.stored);
    }
