-- The call "earlier of two".
use Rattle.std.specs.Prelude.{ℕ, ◌≡◌, List, [], length, ℤ}
use Rattle.std.specs.Borrow.{Bor}
use Rattle.terms.specs.Limits.{All, KindsFine, CostFine}
use Rattle.terms.specs.Order.{Before}

-- what the call takes: anything else is refused (1, 3, 5)
pub record Fine (n : ℕ) (costs : List ℤ) (x y : List ℕ) : Type 0 where
  pub kinds : KindsFine n
  pub costs_long : length costs ≡ n
  pub x_long : length x ≡ n
  pub y_long : length y ≡ n
  pub costs_fine : All CostFine costs

-- the empty part of a lent slice: it starts where the slice does, and holds nothing
pub record EmptyPart (whole part : Bor (List ℕ)) : Type 0 where
  pub starts : part.ref_ptr ≡ whole.ref_ptr
  pub empty : part.now ≡ []

-- r is the very reference that was lent: y where y comes before x, else x; refused, the empty part of x
pub record Earlier (n : ℕ) (costs : List ℤ) (x y r : Bor (List ℕ)) : Type 0 where
  pub second : Fine n costs x.now y.now → Before costs y.now x.now → r ≡ y
  pub first : Fine n costs x.now y.now → (Before costs y.now x.now → ⊥) → r ≡ x
  pub refused : (Fine n costs x.now y.now → ⊥) → EmptyPart x r
