use Rattle.std.proofs.Common.{length, ◌<◌, arith, rules}
use Rattle.terms.specs.Flat.{swap_at}
use Rattle.laws.specs.Numbered.{numbered_long}
use Rattle.grades.proofs.sheets.LentSheetStampedSheet.stamp.Goals as goal

pub offset_bounds-self-k : goal.offset_bounds-self-k
offset_bounds-self-k c =
    let there : c.args.k < length c.args.self.now.stamps.now = omega (arith, c.requires, numbered_long (swap_at 12 c.args.self.now.swaps.now) 0 (length c.args.self.now.stamps.now)) in
    search rules

pub bounds-self-k : goal.bounds-self-k
bounds-self-k c = omega (arith, c.requires, numbered_long (swap_at 12 c.args.self.now.swaps.now) 0 (length c.args.self.now.stamps.now))
