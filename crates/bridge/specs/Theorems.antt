-- THE THEOREMS, in the house's words and over plain lists. A kit is n and sizes of at least 1 (`IsKit`), a sheet
-- is swaps of n counts a side and of equal grades (`IsSheet`); costs are any. What is proved of what loads reach holds
-- for any relation that is `Regular`, and by `reaches_regular` for what they reach by a sheet.
--     finished_exists   there is a finished table, for every sheet and bound
--     finished_unique   and only one
--     never_more_rows   heads found are never more than its rows
--     finished_proper   its rows are proper
--     settling_ends     settling by any table of proper rows ends
--     settling_one      at one load
--     settles_first     by a finished table, at the first of all loads reached
--     any_sequence      as do its rows in whatever sequence
--     settled_joined    and loads may be settled before they are joined
-- Assumes nothing.
use Rattle.std.specs.Prelude.{ℕ, ◌≤◌, ◌≡◌, List, length, ℤ}
use Rattle.std.proofs.Common.{ap, sym, subst, ◌∙◌}
use Rattle.terms.specs.Load.{plus, grade}
use Rattle.terms.specs.Order.{Before}
use Rattle.terms.specs.Swaps.{◌∈◌, Swap, Reaches}
use Rattle.terms.specs.Table.{FirstReached, Head, Row, Sorted, Finished}
use Rattle.terms.specs.Settling.{Proper, NoneFits, Settles, Leads}
use Rattle.laws.specs.Order.{before_laws}
use Rattle.laws.specs.Flat.{Sided}
use Rattle.theory.specs.Rows.{Row as RowOf, AllProper}
use Rattle.theory.specs.Finished.{finished_one}
use Rattle.theory.proofs.Finished.{finished_some}
use Rattle.theory.specs.Room.{distinct_le}
use Rattle.bridge.specs.Instance.{Load}
use Rattle.bridge.specs.Carry.{in_order, mem_unmap}
use Rattle.bridge.specs.Rows.{plain, plain_table, loads_table, plain_loads, IsSheet, loads_sheet, loads_even}
use Rattle.bridge.specs.Tables.{ByCounts, by_counts, finished_sided}
use Rattle.bridge.specs.Settling.{settles_one, proper_up}
use Rattle.bridge.specs.Regular.{IsKit, Regular, loads_kit, OfLoads, regular_alike, regular_matches}
use Rattle.bridge.specs.Sheet.{sheet_finished}
use Rattle.bridge.specs.Demands.{Ends, ends_loads, Loaded, loaded, proper_loads, first_loads, sequence_loads, joined_loads}

-- Settling ends at one load, whatever the table.
pub settling_one : {T : List Row} {x y z : List ℕ} → Settles T x y → Settles T x z → y ≡ z
settling_one = settles_one

module _ {n : ℕ} {sizes : List ℕ} (costs : List ℤ) (kit : IsKit n sizes) where
  -- For every sheet and bound there is a finished table.
  pub finished_exists : (sheet : List Swap) → IsSheet n sizes sheet → (bound : ℕ) → (T : List Row) × Finished n bound sizes costs (Reaches sheet) T
  finished_exists sheet swaps bound =
      let t = finished_some (loads_kit costs kit) ByCounts (by_counts n) (loads_sheet sizes sheet swaps) (loads_even sizes sheet swaps) bound in
      (plain_table t.0, sheet_finished costs kit sheet swaps bound t.0 t.1)

  -- Settling by any table of proper rows ends, at a load of n counts and of the same grade.
  pub settling_ends : {bound : ℕ} (T : List Row) → Sided n T → ((a : Row) → a ∈ T → Proper bound sizes costs a) → (x : List ℕ) → length x ≡ n → Ends n sizes T x
  settling_ends {bound} T w ok x e =
      let U : List (RowOf (Load n)) = loads_table T w in
      let q : plain_table U ≡ T = plain_loads T w in
      let fine : AllProper (loads_kit costs kit) U = proper_up n sizes kit.of_sizes kit.from_one costs (before_laws costs n) U (subst (λ (W : List Row). (a : Row) → a ∈ W → Proper bound sizes costs a) (sym q) ok) in
      subst (λ (W : List Row). Ends n sizes W x) q (ends_loads costs kit U fine (x, e))

  -- ---- a finished table, of any relation that is regular

  module _ {reach : List ℕ → List ℕ → Type 0} (reg : Regular n sizes reach) where
    -- There is only one.
    pub finished_unique : {bound : ℕ} {T U : List Row} → Finished n bound sizes costs reach T → Finished n bound sizes costs reach U → T ≡ U
    finished_unique {bound} {T} {U} f g =
        let t : Loaded costs kit reach bound T = loaded costs kit reg bound T f in
        let u : Loaded costs kit reach bound U = loaded costs kit reg bound U g in
        sym t.1 ∙ ap plain_table (finished_one (loads_kit costs kit) ByCounts (by_counts n) (OfLoads reach) (regular_alike costs kit reg) bound t.0 u.0 t.2 u.2) ∙ u.1

    -- Rows found so far, each with a head of its own, are never more than its rows.
    pub never_more_rows : {bound : ℕ} {T : List Row} → Finished n bound sizes costs reach T → (found : List Row) → Sorted (λ a b. a.head ≡ b.head → ⊥) found → ((a : Row) → a ∈ found → Head n bound sizes costs reach a.head) → length found ≤ length T
    never_more_rows {T = T} f found apart heads = distinct_le (λ (a : Row). a.head) found T (in_order apart) (λ a m. f.each a.head (heads a m))

    -- Its rows have n counts a side, and are proper.
    pub finished_sides : {bound : ℕ} {T : List Row} → Finished n bound sizes costs reach T → Sided n T
    finished_sides {bound} {T} f = finished_sided n sizes kit.of_sizes kit.from_one costs (before_laws costs n) reach (OfLoads reach) (regular_alike costs kit reg) (regular_matches reg) bound T f

    pub finished_proper : {bound : ℕ} {T : List Row} → Finished n bound sizes costs reach T → (a : Row) → a ∈ T → Proper bound sizes costs a
    finished_proper {bound} {T} f a m =
        let t : Loaded costs kit reach bound T = loaded costs kit reg bound T f in
        let r = mem_unmap plain t.0 (subst (λ (W : List Row). a ∈ W) (sym t.1) m) in
        let p = proper_loads costs kit reg bound t.0 t.2 r.0 r.1 in
        record {
          even = subst (λ (b : Row). grade sizes b.head ≡ grade sizes b.tail) r.2 p.same;
          bounded = (f.heads a m).bounded;
          falls = subst (λ (b : Row). Before costs b.tail b.head) r.2 p.lower;
        }

    -- ---- what it does to a load within the bound

    -- The load settles to the first of all loads that it reaches.
    pub settles_first : {bound : ℕ} {T : List Row} → Finished n bound sizes costs reach T → {x y : List ℕ} → length x ≡ n → grade sizes x ≤ bound → Settles T x y → FirstReached costs reach x y
    settles_first {bound} {T} f {x} {y} e l s =
        let t : Loaded costs kit reach bound T = loaded costs kit reg bound T f in
        first_loads costs kit reg bound t.0 t.2 (x, e) l (subst (λ (W : List Row). Settles W x y) (sym t.1) s)

    -- Rows that fit may be applied in whatever sequence: where none fits any more, it is where settling ends.
    pub any_sequence : {bound : ℕ} {T : List Row} → Finished n bound sizes costs reach T → {x y : List ℕ} → length x ≡ n → grade sizes x ≤ bound → Leads T x y → NoneFits T y → Settles T x y
    any_sequence {bound} {T} f {x} {y} e l s none =
        let t : Loaded costs kit reach bound T = loaded costs kit reg bound T f in
        subst (λ (W : List Row). Leads W x y → NoneFits W y → Settles W x y) t.1 (sequence_loads costs kit reg bound t.0 t.2 (x, e) l) s none

    -- So any sequence ends at the first load reached,
    pub sequence_first : {bound : ℕ} {T : List Row} → Finished n bound sizes costs reach T → {x y : List ℕ} → length x ≡ n → grade sizes x ≤ bound → Leads T x y → NoneFits T y → FirstReached costs reach x y
    sequence_first f e l s none = settles_first f e l (any_sequence f e l s none)

    -- and any two at one load.
    pub sequence_one : {bound : ℕ} {T : List Row} → Finished n bound sizes costs reach T → {x y z : List ℕ} → length x ≡ n → grade sizes x ≤ bound → Leads T x y → NoneFits T y → Leads T x z → NoneFits T z → y ≡ z
    sequence_one f e l s none t none' = settling_one (any_sequence f e l s none) (any_sequence f e l t none')

    -- Two loads may be settled before they are joined.
    pub settled_joined :
        {bound : ℕ} {T : List Row} → Finished n bound sizes costs reach T → {x y x' y' z : List ℕ} → length x ≡ n → length y ≡ n → grade sizes (plus x y) ≤ bound
        → Settles T x x' → Settles T y y' → Settles T (plus x y) z → Settles T (plus x' y') z
    settled_joined {bound} {T} f {x} {y} {x'} {y'} {z} d e l p q r =
        let t : Loaded costs kit reach bound T = loaded costs kit reg bound T f in
        subst (λ (W : List Row). Settles W x x' → Settles W y y' → Settles W (plus x y) z → Settles W (plus x' y') z) t.1 (joined_loads costs kit reg bound t.0 t.2 (x, d) (y, e) l) p q r
