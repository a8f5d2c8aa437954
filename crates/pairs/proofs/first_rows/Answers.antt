use Rattle.std.proofs.Common.{◌/◌, length, arith}
use Rattle.pairs.proofs.Flat.{rows_there}
use Rattle.pairs.proofs.first_rows.Goals as goal

pub returns : goal.returns
returns c =
    let flat = c.args.table.now in
    rw c.as_chunks.ensures.front (rows_there flat c.args.rows (length flat / 24) (omega arith))
