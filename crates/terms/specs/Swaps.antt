-- Swaps, and what a load reaches by them.
use Rattle.std.specs.Prelude.{ℕ, ◌≡◌}
use mathlib.Core.List.{List, Memᴰ}
use Rattle.terms.specs.Load.{plus, less, Fits}

infix 50 ◌∈◌
-- a stands in the list
abbrev pub ◌∈◌ : {A : Type 0} → A → List A → Type 0
◌∈◌ a l = Memᴰ a l

-- a swap is two loads; both may have parts of one kind
pub record Swap : Type 0 where
  pub left : List ℕ
  pub right : List ℕ

-- x with h taken out and t put in
abbrev pub exchange : List ℕ → List ℕ → List ℕ → List ℕ
exchange h t x = plus (less x h) t

-- where x has at least the counts of h, h may be taken out and t put in, and that gives y
pub record Step (h t x y : List ℕ) : Type 0 where
  pub fits : Fits h x
  pub gives : exchange h t x ≡ y

-- x reaches y: zero or more steps by swaps of the sheet, from left to right or from right to left
pub data Reaches (sheet : List Swap) (x : List ℕ) : List ℕ → Type 0 where
  stay : {y : List ℕ} → x ≡ y → Reaches sheet x y
  forth : {y z : List ℕ} (s : Swap) → s ∈ sheet → Reaches sheet x y → Step s.left s.right y z → Reaches sheet x z
  back : {y z : List ℕ} (s : Swap) → s ∈ sheet → Reaches sheet x y → Step s.right s.left y z → Reaches sheet x z
