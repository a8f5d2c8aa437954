-- The sheet of kit A is written byte for byte as it has to be, and reads back. Assumes nothing.
use Rattle.std.specs.Prelude.{◌≡◌, refl}
use Rattle.std.proofs.Common.{sym, ap, ◌∙◌}
use Rattle.shapes.specs.Split.{fine}
use Rattle.print.specs.Lines.{digits}
use Rattle.sheet.specs.Sheet.{sheet_of}
use Rattle.written.specs.Write.{line_of, text_of, sheet_for}
use Rattle.written.specs.Worked.{sheet_a, bytes_a, within_a}
use Rattle.written.proofs.Back.{reads_back}

pub text_a : text_of sheet_a ≡ bytes_a
unfolding line_of digits
text_a = refl

pub back_a : sheet_of bytes_a ≡ fine (sheet_for sheet_a)
back_a = ap sheet_of (sym text_a) ∙ reads_back sheet_a within_a
