use Rattle.std.proofs.Common.{[], ◌∙◌}
use Rattle.rack.specs.declared.Row.{Row}
use Rattle.grades.proofs.Joins.{made_as, made_fits}
use Rattle.grades.proofs.join_pair.Goals as goal

abbrev no_row : Row
no_row = record { head = []; tail = [] }

pub make-x-requires : goal.make-x-requires
make-x-requires c = rw (c.deref.ensures.0, c.deref-2.ensures.0) (made_fits c.args.table.now.items c.args.p c.args.j no_row c.requires.0 c.requires.1 c.requires.3)

pub make-y-requires : goal.make-y-requires
make-y-requires c = rw (c.deref.ensures.0, c.deref-2.ensures.0) (made_fits c.args.table.now.items c.args.j c.args.p no_row c.requires.1 c.requires.0 c.requires.4)

pub joined-requires : goal.joined-requires
joined-requires c =
    let T = c.args.table.now.items in
    let x = rw (c.deref.ensures.0, c.deref-2.ensures.0) at c.make-x.ensures in
    let y = rw (c.deref.ensures.0, c.deref-2.ensures.0) at c.make-y.ensures in
    rw (x ∙ made_as T c.args.p c.args.j no_row c.requires.0 c.requires.1, y ∙ made_as T c.args.j c.args.p no_row c.requires.1 c.requires.0) (c.requires.3, c.requires.4, c.requires.2)

pub returns : goal.returns
returns c =
    let T = c.args.table.now.items in
    let x = rw (c.deref.ensures.0, c.deref-2.ensures.0) at c.make-x.ensures in
    let y = rw (c.deref.ensures.0, c.deref-2.ensures.0) at c.make-y.ensures in
    rw (x ∙ made_as T c.args.p c.args.j no_row c.requires.0 c.requires.1, y ∙ made_as T c.args.j c.args.p no_row c.requires.1 c.requires.0) at c.joined.ensures
