use Rattle.std.proofs.Common.{ap, sym, ◌∙◌, ◌<◌, length, arith}
use Rattle.terms.specs.Flat.{swap_at}
use Rattle.terms.specs.Swaps.{Swap}
use Rattle.laws.specs.Numbered.{numbered_long, item_at}
use Rattle.grades.proofs.sheets.LentSheetStampedSheet.sides.Goals as goal

pub row_of-row-requires : goal.row_of-row-requires
row_of-row-requires c = omega (arith, c.requires, c.args.self.now.whole, numbered_long (swap_at 12 c.args.self.now.swaps.now) 0 (length c.args.self.now.stamps.now))

pub returns : goal.returns
returns c =
    let swaps = c.args.self.now.swaps.now in
    let count = length c.args.self.now.stamps.now in
    let there : c.args.k < count = omega (arith, c.requires, numbered_long (swap_at 12 swaps) 0 count) in
    let is = sym (item_at (swap_at 12 swaps) _ count c.args.k there) in
    (c.twelve.ensures ∙ c.row_of-row.ensures.head.0 ∙ ap (λ (s : Swap). s.left) is, c.twelve-2.ensures ∙ c.row_of-row.ensures.tail.0 ∙ ap (λ (s : Swap). s.right) is)
