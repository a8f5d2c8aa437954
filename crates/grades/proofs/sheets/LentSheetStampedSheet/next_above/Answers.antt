use Rattle.std.proofs.lemmas.Iterator.{YieldsList-from_slice}
use Rattle.std.proofs.lemmas.Iterator.Consumers.{YieldsList-at, YieldsList-from_copied}
use Rattle.grades.proofs.Whole.{next_of}
use Rattle.grades.proofs.sheets.LentSheetStampedSheet.next_above.Goals as goal

pub returns : goal.returns
returns c = next_of c.next_above.ensures (YieldsList-from_copied (YieldsList-at c.copied.ensures.source (YieldsList-from_slice c.args.self.now.stamps.now c.iter.ensures.rest)))
