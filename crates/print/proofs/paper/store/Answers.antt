use Rattle.std.proofs.Common.{refl, arith}
use Rattle.print.proofs.Runs.{part_stored}
use Rattle.print.proofs.paper.store.Goals as goal

pub returns : goal.returns
returns c = record {
  next = refl;
  holds = part_stored c.args.bytes.now c.args.out.now _ c.args.at _ c.copy_from_slice.ensures.after (omega arith) c.requires;
}
