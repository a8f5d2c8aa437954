use Rattle.std.proofs.Common.{◌≡◌, sym, inl, map, length, ◌∙◌, arith, rules}
use Rattle.std.proofs.lemmas.List.{length-map}
use Rattle.std.specs.Prelude.{Err}
use Rattle.terms.specs.Load.{zeros}
use Rattle.terms.specs.Flat.{filled}
use Rattle.rack.specs.Rows.{as_row, as_rows}
use Rattle.padding.specs.Widen.{resize_row}
use Rattle.complete.specs.Grown.{none_fits, all_fit}
use Rattle.complete.proofs.Sheet.finish.Goals as goal

pub returns-then-room-rows : goal.returns-then-room-rows
returns-then-room-rows c =
    let cleared : c.fill.new.self ≡ zeros (length c.args.rules.now) = search rules in
    let long = length-map c.grow.new.table.items as_row in
    inl (none_fits c.requires.0 c.args.rules.now _ c.grow.ensures (omega (arith, c.if-room-rows.true, long, c.len-rows.ensures.value)), λ i. (Err (c.at.ensures i), cleared i))

pub returns : goal.returns
returns c =
    let s = c.args.self.now in
    let lent = c.args.rules.now in
    let T = as_rows c.grow.new.table.items in
    let long = length-map c.grow.new.table.items as_row in
    let laid : c.lay_rows.new.rules ≡ filled (length lent) (map (resize_row s.kit.kinds) T) = search rules in
    let fit = all_fit c.requires.0 lent T c.grow.ensures (omega (arith, c.if-room-rows.false, long, c.len-rows.ensures.value)) _ laid in
    let rows : length T ≡ c.len-rows.result = long ∙ sym c.len-rows.ensures.value in
    rw rows at fit
