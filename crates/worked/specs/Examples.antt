-- Loads checked by hand: P1 to P12 as one table, and what a line of it says in the words of `terms`.
use Rattle.std.specs.Prelude.{ℕ, ◌*◌, ◌≤◌, ◌≡◌, List, [], ◌∷◌, length, ℤ, pos, neg_ℤ}
use Rattle.terms.specs.Load.{grade, zeros}
use Rattle.terms.specs.Swaps.{Swap, Reaches}
use Rattle.terms.specs.Table.{Row, Finished}
use Rattle.terms.specs.Settling.{Settles}
use Rattle.terms.specs.Flat.{sheet_of, filled}
use Rattle.terms.specs.Limits.{All, SizeFine, CostFine, most_kinds, most_bound}
use Rattle.terms.specs.Outcome.{Outcome, must}
use Rattle.terms.specs.Refusals.{number_of}
use Rattle.terms.specs.declared.Refusal.TheVariants.{NoRoom, OverBound}
use Rattle.bridge.specs.Rows.{IsSwap}

-- a kit and its sheet, as they are lent
pub record Given : Type 0 where
  pub kinds : ℕ
  pub bound : ℕ
  pub sizes : List ℕ
  pub costs : List ℤ
  pub swaps : List ℕ

-- what is asked: complete, with room for so many rows; or settle a load by the finished table
pub data Asked : Type 0 where
  complete : ℕ → Asked
  settle : List ℕ → Asked

-- what is answered: so many rows; done; or a refusal number
pub data Answer : Type 0 where
  rows : ℕ → Answer
  done : Answer
  refused : ℕ → Answer

-- a line of the table: input, answer, and what the lent table or load holds afterwards
pub record Example : Type 0 where
  pub given : Given
  pub asked : Asked
  pub answer : Answer
  pub after : List ℕ

-- ---- what a line says

-- the tests of kit and sheet
pub record Accepted (g : Given) : Type 0 where
  pub of_kinds : (1 ≤ g.kinds) × (g.kinds ≤ most_kinds)
  pub of_bound : (1 ≤ g.bound) × (g.bound ≤ most_bound)
  pub of_sizes : (length g.sizes ≡ g.kinds) × All SizeFine g.sizes
  pub of_costs : (length g.costs ≡ g.kinds) × All CostFine g.costs
  pub of_swaps : All (IsSwap g.kinds g.sizes) (sheet_of g.kinds g.swaps)
  pub of_sides : All (λ (s : Swap). s.left ≡ s.right → ⊥) (sheet_of g.kinds g.swaps)

-- complete, where T is the finished table: refusal 8 with the whole table 0, or T's rows and then 0
abbrev pub Completes : Given → List Row → ℕ → Answer × List ℕ → Type 0
Completes g T room =
    let long : ℕ = room * (2 * g.kinds) in
    Outcome (λ o. o ≡ (rows (length T), filled long T)) (must (length T ≤ room) (refused (number_of NoRoom), zeros long) ∷ [])

-- settle by T: refusal 10 with the load as lent, or the load to which it settles
abbrev pub SettlesBy : Given → List Row → List ℕ → Answer × List ℕ → Type 0
SettlesBy g T x =
    Outcome (λ o. (o.0 ≡ done) × Settles T x o.1) (must (grade g.sizes x ≤ g.bound) (refused (number_of OverBound), x) ∷ [])

abbrev pub Says : Given → List Row → Asked → Answer × List ℕ → Type 0
Says g T (complete room) o = Completes g T room o
Says g T (settle x) o = SettlesBy g T x o

-- the line is right: the kit is accepted, and with its finished table what is asked has this answer
pub record Holds (e : Example) : Type 0 where
  pub accepted : Accepted e.given
  pub table : List Row
  pub finished : Finished e.given.kinds e.given.bound e.given.sizes e.given.costs (Reaches (sheet_of e.given.kinds e.given.swaps)) table
  pub says : Says e.given table e.asked (e.answer, e.after)

-- ---- the kits

abbrev pub kit_a : ℕ → Given
kit_a bound = record {
  kinds = 4;
  bound = bound;
  sizes = 1 ∷ 2 ∷ 3 ∷ 4 ∷ [];
  costs = pos 0 ∷ pos 1 ∷ pos 0 ∷ pos 0 ∷ [];
  swaps = 1 ∷ 0 ∷ 1 ∷ 0 ∷ 0 ∷ 2 ∷ 0 ∷ 0 ∷ 0 ∷ 1 ∷ 0 ∷ 1 ∷ 0 ∷ 0 ∷ 2 ∷ 0 ∷ [];
}

abbrev pub kit_t : Given
kit_t = record {
  kinds = 3;
  bound = 20;
  sizes = 5 ∷ 2 ∷ 2 ∷ [];
  costs = pos 0 ∷ pos 0 ∷ pos 0 ∷ [];
  swaps = 1 ∷ 1 ∷ 0 ∷ 1 ∷ 0 ∷ 1 ∷ [];
}

abbrev pub kit_n : ℕ → Given
kit_n bound = record { kinds = 2; bound = bound; sizes = 1 ∷ 1 ∷ []; costs = neg_ℤ (pos 3) ∷ neg_ℤ (pos 2) ∷ []; swaps = 1 ∷ 0 ∷ 0 ∷ 1 ∷ [] }

abbrev pub load_2 : ℕ → ℕ → List ℕ
load_2 a b = a ∷ b ∷ []

abbrev pub load_3 : ℕ → ℕ → ℕ → List ℕ
load_3 a b c = a ∷ b ∷ c ∷ []

abbrev pub load_4 : ℕ → ℕ → ℕ → ℕ → List ℕ
load_4 a b c d = a ∷ b ∷ c ∷ d ∷ []

-- the rows of kit A: the first three and what follows, and the fourth
abbrev pub first_three : List ℕ → List ℕ
first_three rest =
    0 ∷ 2 ∷ 0 ∷ 0 ∷ 1 ∷ 0 ∷ 1 ∷ 0 ∷
    0 ∷ 1 ∷ 0 ∷ 1 ∷ 0 ∷ 0 ∷ 2 ∷ 0 ∷
    0 ∷ 1 ∷ 2 ∷ 0 ∷ 1 ∷ 0 ∷ 1 ∷ 1 ∷ rest

abbrev pub fourth : List ℕ
fourth = 1 ∷ 0 ∷ 1 ∷ 2 ∷ 0 ∷ 0 ∷ 4 ∷ 0 ∷ []

abbrev pub line : Given → Asked → Answer → List ℕ → Example
line g a o l = record { given = g; asked = a; answer = o; after = l }

-- ---- the table

abbrev pub examples : List Example
examples =
    line (kit_a 12) (complete 4) (rows 4) (first_three fourth) ∷  -- P1
    line (kit_a 11) (complete 3) (rows 3) (first_three []) ∷  -- P2
    line (kit_a 12) (complete 3) (refused 8) (zeros 24) ∷  -- P3
    line (kit_a 3) (complete 0) (rows 0) [] ∷  -- P4
    line (kit_a 4) (complete 0) (refused 8) [] ∷  -- P5
    line (kit_a 12) (settle (load_4 0 2 0 1)) done (load_4 1 0 1 1) ∷  -- P6
    line (kit_a 12) (settle (load_4 1 0 0 1)) done (load_4 1 0 0 1) ∷  -- P7
    line (kit_a 12) (settle (load_4 0 1 1 0)) done (load_4 0 1 1 0) ∷
    line (kit_a 12) (settle (load_4 1 0 0 2)) done (load_4 1 0 0 2) ∷  -- P8
    line (kit_a 12) (settle (load_4 0 0 3 0)) done (load_4 0 0 3 0) ∷
    line kit_t (settle (load_3 2 3 0)) done (load_3 2 0 3) ∷  -- P9
    line kit_t (settle (load_3 0 3 0)) done (load_3 0 3 0) ∷  -- P10
    line (kit_n 5) (settle (load_2 2 3)) done (load_2 5 0) ∷  -- P11
    line (kit_n 4) (settle (load_2 2 3)) (refused 10) (load_2 2 3) ∷
    line (kit_a 12) (settle (zeros 4)) done (zeros 4) ∷  -- P12
    line kit_t (settle (zeros 3)) done (zeros 3) ∷
    line (kit_n 5) (settle (zeros 2)) done (zeros 2) ∷ []
