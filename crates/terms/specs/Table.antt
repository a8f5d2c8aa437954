-- The finished table. `reach` is what a load reaches: by the swaps of a sheet, `Reaches sheet`.
use Rattle.std.specs.Prelude.{ℕ, ◌≤◌, ◌<◌, ◌≡◌, ◌⊎◌, List, [], ◌∷◌, length, get_or, ℤ}
use Rattle.terms.specs.Load.{grade, without_one}
use Rattle.terms.specs.Order.{Before, Lex}
use Rattle.terms.specs.Swaps.{◌∈◌}

-- y is the first in the cost order of all loads that x reaches
pub record FirstReached (costs : List ℤ) (reach : List ℕ → List ℕ → Type 0) (x y : List ℕ) : Type 0 where
  pub reached : reach x y
  pub none_before : (z : List ℕ) → reach x z → Before costs z y → ⊥

-- x is settled: it is the first of all loads that it reaches
abbrev pub Settled : List ℤ → (List ℕ → List ℕ → Type 0) → List ℕ → Type 0
Settled costs reach x = FirstReached costs reach x x

-- h is a head: its grade is at most the bound, it is not settled, and each load got by taking out one part is settled
pub record Head (n bound : ℕ) (sizes : List ℕ) (costs : List ℤ) (reach : List ℕ → List ℕ → Type 0) (h : List ℕ) : Type 0 where
  pub counts : length h ≡ n
  pub bounded : grade sizes h ≤ bound
  pub unsettled : Settled costs reach h → ⊥
  pub parts : (i : ℕ) → 0 < get_or h i 0 → Settled costs reach (without_one i h)

-- a row of a rule table
pub record Row : Type 0 where
  pub head : List ℕ
  pub tail : List ℕ

-- row a stands above row b: by the grade of the head; at one grade by the heads' counts from kind 1, the smaller first
abbrev pub Above : List ℕ → Row → Row → Type 0
Above sizes a b = (grade sizes a.head < grade sizes b.head) ⊎ ((grade sizes a.head ≡ grade sizes b.head) × Lex a.head b.head)

-- each stands above all that follow
pub data Sorted {A : Type 0} (P : A → A → Type 0) : List A → Type 0 where
  none : Sorted P []
  next : {a : A} {l : List A} → ((b : A) → b ∈ l → P a b) → Sorted P l → Sorted P (a ∷ l)

-- the finished table: one row for each head, with the first load of those that the head reaches, in order
pub record Finished (n bound : ℕ) (sizes : List ℕ) (costs : List ℤ) (reach : List ℕ → List ℕ → Type 0) (table : List Row) : Type 0 where
  pub heads : (a : Row) → a ∈ table → Head n bound sizes costs reach a.head
  pub tails : (a : Row) → a ∈ table → FirstReached costs reach a.head a.tail
  pub each : (h : List ℕ) → Head n bound sizes costs reach h → (a : Row) × (a ∈ table) × (a.head ≡ h)
  pub order : Sorted (Above sizes) table
