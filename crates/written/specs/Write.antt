-- A sheet written as text: one record a line, its word and its numbers with a tab before each, every line ended by a line feed.
use Rattle.std.specs.Prelude.{ℕ, suc, ◌≤◌, ◌≡◌, List, [], ◌∷◌, ◌++◌, ℤ, pos, negsuc, length}
use Rattle.terms.specs.Load.{grade}
use Rattle.terms.specs.Limits.{All, KindsFine, BoundFine, SizeFine, CostFine, most_swaps, most_loads, most_count}
use Rattle.terms.specs.Swaps.{Swap}
use Rattle.lines.specs.Fields.{kit_word, size_word, cost_word, swap_word, load_word}
use Rattle.print.specs.Lines.{digits, each}
use Rattle.sheet.specs.Sheet.{Sheet}

-- what a sheet is written from: a kit of so many kinds, its swaps, and loads
pub record Content : Type 0 where
  pub kinds : ℕ
  pub bound : ℕ
  pub sizes : List ℕ
  pub costs : List ℤ
  pub swaps : List Swap
  pub loads : List (List ℕ)

-- ## The limits

-- a load has a count for each kind, none above 65,535
abbrev pub LoadFine : ℕ → List ℕ → Type 0
LoadFine n x = (length x ≡ n) × All (λ v. v ≤ most_count) x

-- the two sides of a swap are loads that differ, of one grade
pub record SwapFine (n : ℕ) (sizes : List ℕ) (s : Swap) : Type 0 where
  pub left_fine : LoadFine n s.left
  pub right_fine : LoadFine n s.right
  pub differ : s.left ≡ s.right → ⊥
  pub one_grade : grade sizes s.left ≡ grade sizes s.right

pub record Within (c : Content) : Type 0 where
  pub kinds_fine : KindsFine c.kinds
  pub bound_fine : BoundFine c.bound
  pub sized : length c.sizes ≡ c.kinds
  pub sizes_fine : All SizeFine c.sizes
  pub costed : length c.costs ≡ c.kinds
  pub costs_fine : All CostFine c.costs
  pub swaps_few : length c.swaps ≤ most_swaps
  pub swaps_fine : All (SwapFine c.kinds c.sizes) c.swaps
  pub loads_few : length c.loads ≤ most_loads
  pub loads_fine : All (LoadFine c.kinds) c.loads

-- ## The text

-- a line: its word, each value with a tab before it, a line feed
unfoldable pub line_of : {A : Type 0} → (A → List ℕ) → List ℕ → List A → List ℕ
line_of spell word values = word ++ (each (λ v. 9 ∷ spell v) values ++ (10 ∷ []))

-- a cost: a minus stands before a negative one
abbrev pub cost_digits : ℤ → List ℕ
cost_digits (pos v) = digits v
cost_digits (negsuc v) = 45 ∷ digits (suc v)

-- the counts of a swap, left and then right
abbrev pub sides : Swap → List ℕ
sides s = s.left ++ s.right

abbrev pub swap_text : Swap → List ℕ
swap_text s = line_of digits swap_word (sides s)

abbrev pub load_text : List ℕ → List ℕ
load_text x = line_of digits load_word x

abbrev pub text_of : Content → List ℕ
text_of c =
    line_of digits kit_word (c.kinds ∷ c.bound ∷ [])
    ++ (line_of digits size_word c.sizes
    ++ (line_of cost_digits cost_word c.costs
    ++ (each swap_text c.swaps
    ++ each load_text c.loads)))

-- ## The sheet that the text has to be

abbrev pub sheet_for : Content → Sheet
sheet_for c =
    record {
      kit = record { kinds = c.kinds; bound = c.bound };
      sizes = c.sizes;
      costs = c.costs;
      swaps = record { number = length c.swaps; counts = each sides c.swaps };
      loads = record { number = length c.loads; counts = each (λ x. x) c.loads };
    }
