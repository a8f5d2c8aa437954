use Rattle.std.proofs.Common.{◌+◌, ◌*◌, ◌≤◌}
use Rattle.terms.specs.Flat.{table_of}
use Rattle.report.specs.Report.{rule_lines, row_most}
use Rattle.report.proofs.rule_lines.Given as goal

abbrev pub invariant-loop-r : goal.invariant-loop-r
invariant-loop-r g l = record {
  stored : g.P.Paper.stored (rule_lines l.table.sizes.now (table_of l.table.kit.kinds l.table.rules.now l.r)) l.initial.out l.out;
  short : g.P.Paper.place l.out ≤ g.P.Paper.place l.initial.out + l.r * row_most;
}
