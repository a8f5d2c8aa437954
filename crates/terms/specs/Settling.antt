-- Settling a load by a rule table.
use Rattle.std.specs.Prelude.{ℕ, ◌≤◌, ◌≡◌, List, ◌∷◌, ℤ}
use Rattle.terms.specs.Load.{grade, Fits}
use Rattle.terms.specs.Order.{Before}
use Rattle.terms.specs.Swaps.{◌∈◌, Step}
use Rattle.terms.specs.Table.{Row}

-- a proper row: sides of equal grade, within the bound, and a head that comes after its tail
pub record Proper (bound : ℕ) (sizes : List ℕ) (costs : List ℤ) (a : Row) : Type 0 where
  pub even : grade sizes a.head ≡ grade sizes a.tail
  pub bounded : grade sizes a.head ≤ bound
  pub falls : Before costs a.tail a.head

-- no row's head fits in x
abbrev pub NoneFits : List Row → List ℕ → Type 0
NoneFits table x = (a : Row) → a ∈ table → Fits a.head x → ⊥

-- a is the first row whose head fits in x
pub data FirstFit (x : List ℕ) (a : Row) : List Row → Type 0 where
  hit : {b : Row} {rest : List Row} → a ≡ b → Fits a.head x → FirstFit x a (b ∷ rest)
  miss : {b : Row} {rest : List Row} → (Fits b.head x → ⊥) → FirstFit x a rest → FirstFit x a (b ∷ rest)

-- x settles to y: while any row's head fits, the first such row is applied once
pub data Settles (table : List Row) : List ℕ → List ℕ → Type 0 where
  done : {x y : List ℕ} → NoneFits table x → x ≡ y → Settles table x y
  next : {x y z : List ℕ} (a : Row) → FirstFit x a table → Step a.head a.tail x y → Settles table y z → Settles table x z

-- x comes to y by rows that fit, in whatever sequence
pub data Leads (table : List Row) : List ℕ → List ℕ → Type 0 where
  stop : {x y : List ℕ} → x ≡ y → Leads table x y
  more : {x y z : List ℕ} (a : Row) → a ∈ table → Step a.head a.tail x y → Leads table y z → Leads table x z
