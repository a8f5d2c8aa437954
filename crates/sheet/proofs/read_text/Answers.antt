use Rattle.std.specs.Prelude.{◌≡◌, length, take}
use Rattle.std.proofs.Common.{rules}
use Rattle.sheet.proofs.read_text.Goals as goal

-- as many sizes are lent as the kit has kinds
pub returns : goal.returns
returns c =
    let n = c.in_ok-first.first.kit.kinds in
    let long : length (take n c.size_line.new.sizes) ≡ n = search rules in
    let rest = rw long at c.in_ok-rest.ensures in
    search rules
