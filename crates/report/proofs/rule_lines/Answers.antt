use Rattle.std.proofs.Common.{arith}
use Rattle.terms.specs.Flat.{row_at, table_of}
use Rattle.laws.specs.Numbered.{numbered_more}
use Rattle.print.proofs.Runs.{each_snoc}
use Rattle.report.specs.Report.{row_line}
use Rattle.report.proofs.rule_lines.Goals as goal

pub loop-r-preserved : goal.loop-r-preserved
loop-r-preserved g c =
    let t = c.args.table.now in
    let row = row_at t.kit.kinds t.rules.now in
    let x = c.loop-r in
    record {
      stored = rw (numbered_more row x.r, each_snoc (row_line t.sizes.now) (table_of t.kit.kinds t.rules.now x.r) (row x.r))
          (g.met.P.Paper.stores_both _ _ _ _ _ x.invariant.stored c.rule_at.ensures.stored);
      short = omega (arith, x.invariant.short, c.rule_at.ensures.upper_bound);
    }
