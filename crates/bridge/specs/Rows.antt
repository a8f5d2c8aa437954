-- Rows and swaps of lists, and of the theory's loads. `plain` reads a row of the theory's as a row of lists; a table of
-- rows whose sides have n counts is so read from one of the theory's, `loads_table`. The same for swaps.
-- Assumes nothing.
use Rattle.std.specs.Prelude.{ℕ, ◌≡◌, refl, List, map, length}
use Rattle.std.proofs.Common.{ap}
use Rattle.terms.specs.Load.{grade}
use Rattle.terms.specs.Swaps.{◌∈◌, Swap}
use Rattle.terms.specs.Table.{Row}
use Rattle.laws.specs.Flat.{Sides, Sided}
use Rattle.theory.specs.Rows.{Row as RowOf, row}
use Rattle.bridge.specs.Instance.{Load, load_path}
use Rattle.bridge.specs.Carry.{mem_map, raised, raised_down}

-- ---- rows

abbrev pub plain : {n : ℕ} → RowOf (Load n) → Row
plain a = record { head = a.head.0; tail = a.tail.0 }

abbrev pub plain_table : {n : ℕ} → List (RowOf (Load n)) → List Row
plain_table = map plain

abbrev pub loads_row : {n : ℕ} (a : Row) → Sides n a → RowOf (Load n)
loads_row a w = row (a.head, w.of_head) (a.tail, w.of_tail)

abbrev pub loads_table : {n : ℕ} (T : List Row) → Sided n T → List (RowOf (Load n))
loads_table {n} = raised (plain {n = n}) (Sides n) loads_row

pub plain_loads : {n : ℕ} (T : List Row) (w : Sided n T) → plain_table (loads_table T w) ≡ T
plain_loads {n} = raised_down (plain {n = n}) (Sides n) loads_row (λ a w. refl)

pub plain_one : {n : ℕ} (a b : RowOf (Load n)) → plain a ≡ plain b → a ≡ b
plain_one a b e = λ i. record { head = h i; tail = t i }
  where
    h : a.head ≡ b.head
    h = load_path (ap (λ (r : Row). r.head) e)

    t : a.tail ≡ b.tail
    t = load_path (ap (λ (r : Row). r.tail) e)

-- ---- swaps

abbrev pub plain_swap : {n : ℕ} → Load n × Load n → Swap
plain_swap p = record { left = p.0.0; right = p.1.0 }

abbrev pub plain_sheet : {n : ℕ} → List (Load n × Load n) → List Swap
plain_sheet = map plain_swap

-- what a swap is: two loads of n counts, of equal grade
pub record IsSwap (n : ℕ) (sizes : List ℕ) (s : Swap) : Type 0 where
  pub of_left : length s.left ≡ n
  pub of_right : length s.right ≡ n
  pub even : grade sizes s.left ≡ grade sizes s.right

abbrev pub IsSheet : ℕ → List ℕ → List Swap → Type 0
IsSheet n sizes sheet = (s : Swap) → s ∈ sheet → IsSwap n sizes s

abbrev pub loads_swap : {n : ℕ} (sizes : List ℕ) (s : Swap) → IsSwap n sizes s → Load n × Load n
loads_swap sizes s w = ((s.left, w.of_left), (s.right, w.of_right))

abbrev pub loads_sheet : {n : ℕ} (sizes : List ℕ) (sheet : List Swap) → IsSheet n sizes sheet → List (Load n × Load n)
loads_sheet {n} sizes = raised (plain_swap {n = n}) (IsSwap n sizes) (loads_swap sizes)

pub plain_loads_sheet : {n : ℕ} (sizes : List ℕ) (sheet : List Swap) (w : IsSheet n sizes sheet) → plain_sheet (loads_sheet sizes sheet w) ≡ sheet
plain_loads_sheet {n} sizes = raised_down (plain_swap {n = n}) (IsSwap n sizes) (loads_swap sizes) (λ s w. refl)

pub loads_even : {n : ℕ} (sizes : List ℕ) (sheet : List Swap) (w : IsSheet n sizes sheet) (p : Load n × Load n) → p ∈ loads_sheet sizes sheet w → grade sizes p.0.0 ≡ grade sizes p.1.0
loads_even sizes sheet w p m =
    let k : plain_swap p ∈ sheet = rw (plain_loads_sheet sizes sheet w) at (mem_map plain_swap (loads_sheet sizes sheet w) m) in
    (w (plain_swap p) k).even
