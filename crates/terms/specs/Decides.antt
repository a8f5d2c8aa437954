-- What a test answers.
use Rattle.std.specs.Prelude.{◌≡◌, Bool, true, false}

-- r decides P: it is true where P holds, and false where P does not
pub record Decides (P : Type 0) (r : Bool) : Type 0 where
  pub holds : r ≡ true → P
  pub fails : r ≡ false → P → ⊥
