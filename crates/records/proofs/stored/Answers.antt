use Rattle.std.proofs.Common.{arith, sym, ◌∙◌}
use Rattle.records.proofs.Stores as stores
use Rattle.records.proofs.stored.Goals as goal

pub returns-in_default : goal.returns-in_default
returns-in_default g c = λ reads least most h.
    let l = c.loop-i in
    let k = c.type_inv.row l.i in
    record {
      says = stores.stops reads least most c.args.row.now l.i c.loop-i-test.true (sym c.in_default.is ∙ h _ _ (omega arith) c.read.ensures) ∙ (l.invariant reads least most h).1;
      put = λ e. (cc);
    }

pub loop-i-preserved : goal.loop-i-preserved
loop-i-preserved g c = λ reads least most h.
    let l = c.loop-i in
    let k = c.type_inv.row l.i in
    let p = l.invariant reads least most h in
    let q = stores.goes reads least most c.args.row.now l.i c.in-Some.value l.table c.loop-i-test.true (omega arith) (sym c.in-Some.is ∙ h _ _ (omega arith) c.read.ensures) p.0 in
    (q.0, q.1 ∙ p.1)

pub returns : goal.returns
returns g c = λ reads least most h.
    let l = c.loop-i in
    let p = l.invariant reads least most h in
    stores.ends reads least most c.args.row.now l.i l.table c.loop-i-test.false (omega arith) p.0 p.1
