-- What a finished table of the theory's loads says of the same table as lists: the way to the theorems.
-- Assumes nothing.
use Rattle.std.specs.Prelude.{ℕ, suc, ◌≤◌, ◌<◌, ◌≡◌, List, length, ℤ}
use Rattle.std.proofs.Common.{ap, ap₂, sym, subst, ◌∙◌, arith}
use Rattle.terms.specs.Load.{plus, grade}
use Rattle.terms.specs.Table.{FirstReached, Row, Finished}
use Rattle.terms.specs.Settling.{NoneFits, Settles, Leads}
use Rattle.laws.specs.Order.{before_laws}
use Rattle.theory.specs.Kit.{Kit}
use Rattle.theory.specs.Rows.{Row as RowOf, AllProper, steps_grade}
use Rattle.theory.specs.Settle.{nf, nf_steps}
use Rattle.theory.specs.Table.{Alike, table_proper, nf_rel, nf_settled}
use Rattle.theory.specs.Demand.{any_sequence, nf_join}
use Rattle.theory.specs.Finished.{Finished as FinishedIn}
use Rattle.bridge.specs.Instance.{Load, sum}
use Rattle.bridge.specs.Rows.{plain_table}
use Rattle.bridge.specs.Tables.{ByCounts, first_down, finished_loads}
use Rattle.bridge.specs.Settling.{none_up, settles_up, settles_down, leads_up}
use Rattle.bridge.specs.Regular.{IsKit, Regular, loads_kit, OfLoads, regular_alike, regular_matches}

-- settling ends at a load of n counts and of the same grade
pub record Ends (n : ℕ) (sizes : List ℕ) (T : List Row) (x : List ℕ) : Type 0 where
  pub end : List ℕ
  pub settles : Settles T x end
  pub counts : length end ≡ n
  pub level : grade sizes end ≡ grade sizes x

module _ {n : ℕ} {sizes : List ℕ} (costs : List ℤ) (kit : IsKit n sizes) where
  abbrev K : Kit
  K = loads_kit costs kit

  pub ends_loads : (T : List (RowOf (Load n))) → AllProper K T → (x : Load n) → Ends n sizes (plain_table T) x.0
  ends_loads T ok x = record {
    end = (nf K T x).0;
    settles = settles_down n sizes kit.of_sizes kit.from_one costs (before_laws costs n) T ok x;
    counts = (nf K T x).1;
    level = sym (steps_grade K ok (nf_steps K T ok x));
  }

  -- a finished table of lists, read from one of the theory's
  abbrev pub Loaded : (List ℕ → List ℕ → Type 0) → ℕ → List Row → Type 0
  Loaded reach bound T = (U : List (RowOf (Load n))) × (plain_table U ≡ T) × FinishedIn K ByCounts (OfLoads reach) bound U

  module _ {reach : List ℕ → List ℕ → Type 0} (reg : Regular n sizes reach) (bound : ℕ) where
    pub loaded : (T : List Row) → Finished n bound sizes costs reach T → Loaded reach bound T
    loaded = finished_loads n sizes kit.of_sizes kit.from_one costs (before_laws costs n) reach (OfLoads reach) (regular_alike costs kit reg) (regular_matches reg) bound

    module _ (T : List (RowOf (Load n))) (f : FinishedIn K ByCounts (OfLoads reach) bound T) where
      pub proper_loads : AllProper K T
      proper_loads = table_proper K (OfLoads reach) (regular_alike costs kit reg) (suc bound) T f.rows

      -- where the table settles a load, as the theory computes it
      pub end_loads : (x : Load n) {y : List ℕ} → Settles (plain_table T) x.0 y → (nf K T x).0 ≡ y
      end_loads = settles_up n sizes kit.of_sizes kit.from_one costs (before_laws costs n) T proper_loads

      pub settled_loads : (x : Load n) → Settles (plain_table T) x.0 (nf K T x).0
      settled_loads = settles_down n sizes kit.of_sizes kit.from_one costs (before_laws costs n) T proper_loads

      pub first_loads : (x : Load n) → grade sizes x.0 ≤ bound → {y : List ℕ} → Settles (plain_table T) x.0 y → FirstReached costs reach x.0 y
      first_loads x l s =
          let alike : Alike K (OfLoads reach) = regular_alike costs kit reg in
          let low : grade sizes x.0 < suc bound = omega arith in
          let first = first_down n sizes kit.of_sizes kit.from_one costs (before_laws costs n) reach (OfLoads reach) alike (regular_matches reg) x (nf K T x) (nf_rel K (OfLoads reach) alike (suc bound) T f.rows x) (nf_settled K (OfLoads reach) alike (suc bound) T f.rows x low) in
          subst (FirstReached costs reach x.0) (end_loads x s) first

      pub sequence_loads : (x : Load n) → grade sizes x.0 ≤ bound → {y : List ℕ} → Leads (plain_table T) x.0 y → NoneFits (plain_table T) y → Settles (plain_table T) x.0 y
      sequence_loads x l {y} s none =
          let low : grade sizes x.0 < suc bound = omega arith in
          let u = leads_up n sizes kit.of_sizes kit.from_one costs (before_laws costs n) T x s in
          let i = none_up n sizes kit.of_sizes kit.from_one costs (before_laws costs n) T (y, u.0) none in
          let q : (y, u.0) ≡ nf K T x = any_sequence K (OfLoads reach) (regular_alike costs kit reg) (suc bound) T f.rows x (y, u.0) low u.1 i in
          subst (λ (w : Load n). Settles (plain_table T) x.0 w.0) (sym q) (settled_loads x)

      pub joined_loads :
          (x y : Load n) → grade sizes (plus x.0 y.0) ≤ bound
          → {x' y' z : List ℕ} → Settles (plain_table T) x.0 x' → Settles (plain_table T) y.0 y' → Settles (plain_table T) (plus x.0 y.0) z → Settles (plain_table T) (plus x' y') z
      joined_loads x y l {x'} {y'} {z} p q r =
          let low : grade sizes (plus x.0 y.0) < suc bound = omega arith in
          let w : Load n = sum (nf K T x) (nf K T y) in
          let start : w.0 ≡ plus x' y' = ap₂ plus (end_loads x p) (end_loads y q) in
          let stop : (nf K T w).0 ≡ z = ap (λ (v : Load n). v.0) (sym (nf_join K (OfLoads reach) (regular_alike costs kit reg) (suc bound) T f.rows x y low)) ∙ end_loads (sum x y) r in
          subst (λ (u : List ℕ). Settles (plain_table T) u z) start (subst (Settles (plain_table T) w.0) stop (settled_loads w))
