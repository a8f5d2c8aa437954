use Rattle.std.proofs.Common.{length, sym}
use Rattle.terms.specs.Flat.{swap_at}
use Rattle.laws.specs.Numbered.{numbered_long}
use Rattle.grades.proofs.sheets.LentSheetStampedSheet.count.Goals as goal

pub returns : goal.returns
returns c = sym (numbered_long (swap_at 12 c.args.self.now.swaps.now) 0 (length c.args.self.now.stamps.now))
