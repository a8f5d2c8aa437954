use Rattle.grades.proofs.Joins.{in_met, in_first, in_second}
use Rattle.grades.proofs.joined.Goals as goal

pub returns-in-Met : goal.returns-in-Met
returns-in-Met c = in_met c.args.table.now.items c.join_rows.result (rw c.deref.ensures.0 at c.join_rows.ensures) c.in-Met.is

pub returns-in-First : goal.returns-in-First
returns-in-First c = rw c.push.ensures.items (in_first c.args.table.now.items c.join_rows.result (rw c.deref.ensures.0 at c.join_rows.ensures) c.in-First.is)

pub returns-in-Second : goal.returns-in-Second
returns-in-Second c = rw c.push-in-Second.ensures.items (in_second c.args.table.now.items c.join_rows.result (rw c.deref.ensures.0 at c.join_rows.ensures) c.in-Second.is)
