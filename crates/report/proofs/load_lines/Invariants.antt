use Rattle.std.proofs.Common.{◌≡◌, ◌+◌, ◌*◌, ◌/◌, ◌≤◌, length, drop}
use Rattle.std.specs.Iterator.Adapters.{enumerate_source, enumerate_count}
use Rattle.std.specs.Slice.Iter.{chunks_exact_rest, chunks_exact_size}
use Rattle.report.specs.Report.{LinesBy, Written, load_most}
use Rattle.report.proofs.load_lines.Given as goal

abbrev pub invariant-loop-i : goal.invariant-loop-i
invariant-loop-i g l = record {
  can : (goal.iterator-loop-i g).can_next l.i-iterator;
  ends : (goal.iterator-loop-i g).is_finite l.i-iterator;
  within : enumerate_count l.i-iterator ≤ length l.loads / l.table.kit.kinds;
  width : chunks_exact_size (enumerate_source l.i-iterator) ≡ l.table.kit.kinds;
  rest : chunks_exact_rest (enumerate_source l.i-iterator) ≡ drop (enumerate_count l.i-iterator * l.table.kit.kinds) l.loads;
  written : Written g.P.Paper.stored (LinesBy l.table l.loads l.first (enumerate_count l.i-iterator)) l.initial.out l.out;
  short : g.P.Paper.place l.out ≤ g.P.Paper.place l.initial.out + enumerate_count l.i-iterator * load_most;
}
