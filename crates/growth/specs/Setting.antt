-- The kit of 12 kinds that completion works on: its sheet, its relation, and its working table in the theory.
-- Assumes nothing.
use Rattle.std.specs.Prelude.{ℕ, ◌≤◌, ◌≡◌, refl, List, [], ◌∷◌, length, get_or}
use Rattle.std.proofs.Common.{ap, sym, ◌∙◌}
use Rattle.std.proofs.lemmas.List.{length-map}
use Rattle.std.proofs.Math.ListN.{get_or-map}
use Rattle.terms.specs.Load.{zeros, grade}
use Rattle.terms.specs.Swaps.{◌∈◌, Swap}
use Rattle.terms.specs.Table.{Row}
use Rattle.theory.specs.Kit.{Kit}
use Rattle.theory.specs.Rows.{Row as RowOf, row}
use Rattle.theory.specs.Table.{Alike}
use Rattle.theory.specs.Complete.{sheet_alike}
use Rattle.rack.specs.Racked.{costs_of}
use Rattle.rack.specs.Rows.{head_at, tail_at}
use Rattle.bridge.specs.Instance.{Load}
use Rattle.bridge.specs.Rows.{plain, plain_table, plain_swap, plain_sheet, IsSheet, loads_sheet, plain_loads_sheet, loads_even}
use Rattle.bridge.specs.Regular.{IsKit, loads_kit, ReachOf}

-- sizes, bound and swaps of the working kit
pub record Setting (bound : ℕ) (sizes : List ℕ) (swaps : List Swap) : Type 0 where
  pub kit : IsKit 12 sizes
  pub small : bound ≤ 1000
  pub sheet : IsSheet 12 sizes swaps

-- ---- what stands past the end

-- the empty load, the row and the swap of it
abbrev pub none : Load 12
none = (0 ∷ 0 ∷ 0 ∷ 0 ∷ 0 ∷ 0 ∷ 0 ∷ 0 ∷ 0 ∷ 0 ∷ 0 ∷ 0 ∷ [], refl)

abbrev pub no_row : RowOf (Load 12)
no_row = row none none

abbrev pub no_swap : Load 12 × Load 12
no_swap = (none, none)

-- swap k of a sheet
abbrev pub swap_of : List Swap → ℕ → Swap
swap_of sheet k = get_or sheet k (record { left = zeros 12; right = zeros 12 })

-- ---- rows of the working table, by their number

module _ (T : List (RowOf (Load 12))) (U : List Row) (e : plain_table T ≡ U) where
  pub table_long : length T ≡ length U
  table_long = sym (length-map T plain) ∙ ap length e

  -- whatever is taken to stand past the end
  pub row_by : (d : RowOf (Load 12)) (i : ℕ) → plain (get_or T i d) ≡ get_or U i (plain d)
  row_by d i = sym (get_or-map plain T i d) ∙ ap (λ (V : List Row). get_or V i (plain d)) e

  pub head_by : (d : RowOf (Load 12)) (i : ℕ) → (get_or T i d).head.0 ≡ (get_or U i (plain d)).head
  head_by d i = ap (λ (a : Row). a.head) (row_by d i)

  pub tail_by : (d : RowOf (Load 12)) (i : ℕ) → (get_or T i d).tail.0 ≡ (get_or U i (plain d)).tail
  tail_by d i = ap (λ (a : Row). a.tail) (row_by d i)

  pub row_is : (i : ℕ) → plain (get_or T i no_row) ≡ get_or U i (plain no_row)
  row_is i = row_by no_row i

  pub head_is : (i : ℕ) → (get_or T i no_row).head.0 ≡ head_at U i
  head_is i = ap (λ (a : Row). a.head) (row_is i)

  pub tail_is : (i : ℕ) → (get_or T i no_row).tail.0 ≡ tail_at U i
  tail_is i = ap (λ (a : Row). a.tail) (row_is i)

-- ---- the setting in the theory

module _ {bound : ℕ} {sizes : List ℕ} {sheet : List Swap} (weights : List ℕ) (s : Setting bound sizes sheet) where
  abbrev pub KitOf : Kit
  KitOf = loads_kit (costs_of weights) s.kit

  abbrev pub SheetOf : List (Load 12 × Load 12)
  SheetOf = loads_sheet sizes sheet s.sheet

  abbrev pub RelOf : Load 12 → Load 12 → Type 0
  RelOf = ReachOf (costs_of weights) s.kit sheet s.sheet

  pub even_of : (p : Load 12 × Load 12) → p ∈ SheetOf → grade sizes p.0.0 ≡ grade sizes p.1.0
  even_of = loads_even sizes sheet s.sheet

  abbrev pub alike_of : Alike KitOf RelOf
  alike_of = sheet_alike KitOf SheetOf even_of

  pub sheet_is : plain_sheet SheetOf ≡ sheet
  sheet_is = plain_loads_sheet sizes sheet s.sheet

  pub sheet_long : length SheetOf ≡ length sheet
  sheet_long = sym (length-map SheetOf plain_swap) ∙ ap length sheet_is

  pub swap_by : (e : Load 12 × Load 12) (k : ℕ) → plain_swap (get_or SheetOf k e) ≡ get_or sheet k (plain_swap e)
  swap_by e k = sym (get_or-map plain_swap SheetOf k e) ∙ ap (λ (U : List Swap). get_or U k (plain_swap e)) sheet_is

  pub left_by : (e : Load 12 × Load 12) (k : ℕ) → (get_or SheetOf k e).0.0 ≡ (get_or sheet k (plain_swap e)).left
  left_by e k = ap (λ (a : Swap). a.left) (swap_by e k)

  pub right_by : (e : Load 12 × Load 12) (k : ℕ) → (get_or SheetOf k e).1.0 ≡ (get_or sheet k (plain_swap e)).right
  right_by e k = ap (λ (a : Swap). a.right) (swap_by e k)

  pub swap_is : (k : ℕ) → plain_swap (get_or SheetOf k no_swap) ≡ swap_of sheet k
  swap_is k = swap_by no_swap k

  pub left_is : (k : ℕ) → (get_or SheetOf k no_swap).0.0 ≡ (swap_of sheet k).left
  left_is k = ap (λ (a : Swap). a.left) (swap_is k)

  pub right_is : (k : ℕ) → (get_or SheetOf k no_swap).1.0 ≡ (swap_of sheet k).right
  right_is k = ap (λ (a : Swap). a.right) (swap_is k)
