-- What holds between grades and within one, as contracts say it.
use Rattle.std.specs.Prelude.{ℕ, suc, ◌≤◌, ◌<◌, ◌≡◌, Bool, true, false, List, ◌++◌, length, get_or, leb}
use Rattle.terms.specs.Load.{grade}
use Rattle.terms.specs.Table.{Row, Finished}
use Rattle.terms.specs.Swaps.{Swap, Reaches, exchange}
use Rattle.laws.specs.Load.{UpTo}
use Rattle.theory.specs.Rows.{Row as RowOf}
use Rattle.theory.specs.Table.{Table}
use Rattle.theory.specs.Critical.{New}
use Rattle.theory.specs.Unique.{Sorted}
use Rattle.theory.specs.Finished.{Above}
use Rattle.theory.specs.Tails.{Tails}
use Rattle.bridge.specs.Instance.{Load}
use Rattle.bridge.specs.Rows.{plain_table}
use Rattle.bridge.specs.Tables.{ByCounts}
use Rattle.rack.specs.Racked.{costs_of}
use Rattle.rack.specs.Rows.{head_at, tail_at}
use Rattle.pairs.specs.Pairs.{common, PairList}
use Rattle.pairs.specs.declared.Pair.{Pair}
use Rattle.growth.specs.Setting.{Setting, no_row, swap_of, KitOf, RelOf, alike_of}
use Rattle.growth.specs.Meets.{Meets, Apart}
use Rattle.growth.specs.Grade.{Grows, SwapsJoined, PairsJoined}

abbrev pub pick : Bool → ℕ → ℕ → ℕ
pick true a b = a
pick false a b = b

-- a swap's stamp is its grade where that is within the bound, else 0, at which nothing is due
abbrev pub stamp : ℕ → ℕ → ℕ
stamp bound g = pick (leb g bound) g 0

-- the working kit: its sizes, weights and bound, its swaps and their stamps
pub record Working (bound : ℕ) (sizes weights : List ℕ) (sheet : List Swap) (stamps : List ℕ) : Type 0 where
  pub setting : Setting bound sizes sheet
  pub sizes_up : UpTo 1000 sizes
  pub weighed : length weights ≡ 12
  pub stamps_long : length stamps ≡ length sheet
  pub stamped : (k : ℕ) → k < length sheet → get_or stamps k 0 ≡ stamp bound (grade sizes (swap_of sheet k).left)

-- below grade g the table is right, and its rows are in order
pub record AtGrade {bound : ℕ} {sizes weights : List ℕ} {sheet : List Swap} {stamps : List ℕ} (w : Working bound sizes weights sheet stamps) (g : ℕ) (T : List Row) : Type 0 where
  pub all : List (RowOf (Load 12))
  pub is : plain_table all ≡ T
  pub right : Table (KitOf weights w.setting) (RelOf weights w.setting) g all
  pub order : Sorted (Above (KitOf weights w.setting) ByCounts) all

-- at grade g, which is within the bound, new rows stand at the end of a table that is right below g
pub record Within (weights : List ℕ) (sheet : List Swap) (stamps : List ℕ) (g : ℕ) (T : List Row) : Type 0 where
  pub bound : ℕ
  pub sizes : List ℕ
  pub working : Working bound sizes weights sheet stamps
  pub some : 1 ≤ g
  pub bounded : g ≤ bound
  pub low : List (RowOf (Load 12))
  pub fresh : List (RowOf (Load 12))
  pub is : plain_table (low ++ fresh) ≡ T
  pub new : New (KitOf weights working.setting) (RelOf weights working.setting) g low fresh
  pub apart : Apart weights working.setting g low (low ++ fresh)

-- the tails of the new rows are settled, and nothing else changed
pub record TailsDone {weights : List ℕ} {sheet : List Swap} {stamps : List ℕ} {g : ℕ} {T : List Row} (w : Within weights sheet stamps g T) (after : List Row) : Type 0 where
  pub now_rows : List (RowOf (Load 12))
  pub is : plain_table (w.low ++ now_rows) ≡ after
  pub tails : Tails (KitOf weights w.working.setting) (RelOf weights w.working.setting) (alike_of weights w.working.setting) g w.low w.fresh w.new no_row (length now_rows) now_rows

-- the tails of the rows from base on are settled, and nothing else changed, at whatever grade that was
pub record TailsSettled (weights : List ℕ) (T : List Row) (base : ℕ) (after : List Row) : Type 0 where
  pub long : length after ≡ length T
  pub done : {sheet : List Swap} {stamps : List ℕ} {g : ℕ} (w : Within weights sheet stamps g T) → length w.low ≡ base → TailsDone w after

-- every finished table of the working kit has more rows than the room
abbrev pub NoRoomFor : ℕ → List ℕ → List ℕ → List Swap → ℕ → Type 0
NoRoomFor bound sizes weights sheet room =
    (T : List Row) → Finished 12 bound sizes (costs_of weights) (Reaches sheet) T → room < length T

-- two loads joined in the working table
pub record JoinedIn (weights : List ℕ) (T : List Row) (x y : List ℕ) (after : List Row) : Type 0 where
  pub more : length T ≤ length after
  pub one : length after ≤ suc (length T)
  pub meets : Meets weights T x y after

-- the swaps of the grade are joined, or there is no room
pub record SwapsDone (weights : List ℕ) (sheet : List Swap) (stamps : List ℕ) (g : ℕ) (T : List Row) (room : ℕ) (after : List Row) : Type 0 where
  pub more : length T ≤ length after
  pub one : length after ≤ suc room
  pub grows :
      (w : Within weights sheet stamps g T)
      → Grows weights w.working.setting g w.low w.fresh after (λ M. length after ≤ room → SwapsJoined weights w.working.setting g w.low (length sheet) M)

-- what row p makes of the least load that holds its head and that of row j
abbrev pub made : List Row → ℕ → ℕ → List ℕ
made T p j = exchange (head_at T p) (tail_at T p) (common T p j)

-- at grade g, with the list of the pairs of the rows below
pub record Listing (weights : List ℕ) (sheet : List Swap) (stamps : List ℕ) (g : ℕ) (list : List Pair) (T : List Row) : Type 0 where
  pub within : Within weights sheet stamps g T
  pub entered : PairList within.bound within.sizes (plain_table within.low) (length within.low) list

-- the listed pairs that are due at the grade are joined, or there is no room
pub record PairsDone (weights : List ℕ) (list : List Pair) (g : ℕ) (T : List Row) (room : ℕ) (after : List Row) : Type 0 where
  pub more : length T ≤ length after
  pub one : length after ≤ suc room
  pub grows :
      {sheet : List Swap} {stamps : List ℕ} (q : Listing weights sheet stamps g list T)
      → Grows weights q.within.working.setting g q.within.low q.within.fresh after (λ M. length after ≤ room → PairsJoined weights q.within.working.setting g q.within.low list M)

-- grade g is done, or there is no room
pub record GradeDone (bound : ℕ) (sizes weights : List ℕ) (sheet : List Swap) (stamps : List ℕ) (g : ℕ) (T : List Row) (room : ℕ) (after : List Row) (list : List Pair) : Type 0 where
  pub one : length after ≤ suc room
  pub done : length after ≤ room → (w : Working bound sizes weights sheet stamps) → AtGrade w g T → AtGrade w (suc g) after
  pub listed : length after ≤ room → PairList bound sizes after (length after) list
  pub full : room < length after → NoRoomFor bound sizes weights sheet room

-- every grade is done, or there is no room
pub record AllDone (bound : ℕ) (sizes weights : List ℕ) (sheet : List Swap) (room : ℕ) (after : List Row) : Type 0 where
  pub one : length after ≤ suc room
  pub finished : length after ≤ room → Finished 12 bound sizes (costs_of weights) (Reaches sheet) after
  pub full : room < length after → NoRoomFor bound sizes weights sheet room
