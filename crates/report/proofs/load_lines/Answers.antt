use Rattle.std.proofs.Common.{ℕ, List, length, ◌≡◌, ◌+◌, ◌*◌, ◌<◌, ◌≤◌, ◌∙◌, sym, rules, arith, mul-le-mul_right}
use native.Mathlib.Nat.{suc-mul}
use Rattle.std.specs.Iterator.Adapters.{enumerate_count}
use Rattle.report.specs.Report.{LineBy, load_at}
use Rattle.report.proofs.Parts.{first_load, later_loads, in_count, at_end}
use Rattle.report.proofs.Writing.{written_none, written_next, written_of}
use Rattle.report.proofs.load_lines.Goals as goal

-- load i lies within the buffer, whose length is as lent
lies : (n count i : ℕ) (lent now : List ℕ) → i < count → count * n ≤ length lent → length now ≡ length lent → i * n + n ≤ length now
lies n count i lent now l h e = omega (arith, e, h, mul-le-mul_right n l, suc-mul i n)

pub loop-i-init : goal.loop-i-init
loop-i-init g c =
    let a = c.args in
    let e : enumerate_count c.into_iter-i-iterator.result ≡ 0 = search rules in
    record {
      can = search rules;
      ends = search rules;
      within = omega (arith, e);
      width = search rules;
      rest = rw e (search rules);
      written = rw e (written_none _ g.P.Paper.stored (λ k. LineBy a.table.now (a.first + k) (load_at a.table.now.kit.kinds a.loads.now k)) a.out.now (g.met.P.Paper.stores_none a.out.now));
      short = omega (arith, e);
    }

pub loop-i-preserved : goal.loop-i-preserved
loop-i-preserved g c =
    let a = c.args in
    let n = a.table.now.kit.kinds in
    let i = enumerate_count c.loop-i.i-iterator in
    let kept = c.loop-i.invariant in
    let s = c.in-Some.ensures.steps in
    let next : enumerate_count c.next.new.self ≡ i + 1 = s.2 in
    let left = sym kept.rest ∙ s.0.1.0 in
    let long = s.0.1.1 ∙ kept.width in
    record {
      can = search rules;
      ends = search rules;
      within = rw next (in_count n i a.loads.now _ _ left long c.requires.ready.0.kinds.0);
      width = search rules;
      rest = rw next (later_loads n i a.loads.now _ _ left long);
      written = rw next
          (written_next _ g.P.Paper.stored g.met.P.Paper.stores_both (λ k. LineBy a.table.now (a.first + k) (load_at n a.loads.now k)) i _ _ _ kept.written
          (written_of _ g.P.Paper.stored (LineBy a.table.now (a.first + i)) _ _ (first_load n i a.loads.now _ _ left long) (rw s.1 at c.load_line.ensures.written)));
      short = omega (arith, next, kept.short, c.load_line.ensures.upper_bound);
    }

pub returns-clause-written : goal.returns-clause-written
returns-clause-written g c =
    let a = c.args in
    let kept = c.loop-i.invariant in
    let s = c.in-None.ensures.steps in
    let all = at_end a.table.now.kit.kinds _ a.loads.now c.requires.ready.0.kinds.0 kept.within (rw (kept.rest, kept.width) at s.0.1.0) in
    rw all at kept.written
