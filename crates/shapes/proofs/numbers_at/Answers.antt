use Rattle.std.proofs.Math.Nat.{sub-zero}
use Rattle.std.proofs.Common.{length, arith}
use Rattle.shapes.proofs.Turns as turns
use Rattle.shapes.proofs.numbers_at.Goals as goal

pub loop-cell-init : goal.loop-cell-init
loop-cell-init c = rw sub-zero (turns.prepend_none _)

pub returns-in_default : goal.returns-in_default
returns-in_default c =
    let l = c.loop-cell in
    let a = c.args in
    rw c.at.ensures (turns.loop_stop a.line a.signed a.text.now (length a.row.now) l.cell-index l.place l.row _ l.invariant c.in_default.ensures (omega arith))

pub loop-cell-preserved : goal.loop-cell-preserved
loop-cell-preserved c =
    let l = c.loop-cell in
    let a = c.args in
    turns.loop_turn a.line a.signed a.text.now (length a.row.now) l.cell-index l.place l.row _ l.invariant _ _ c.in-Some.ensures (omega arith) (omega arith)

pub returns : goal.returns
returns c =
    let l = c.loop-cell in
    let a = c.args in
    rw (c.ok_or.ensures.value, c.at-2.ensures)
    (turns.loop_ends a.line a.signed a.text.now (length a.row.now) l.cell-index l.place l.row _ l.invariant _ c.after_feed.ensures (omega arith) (omega arith))
