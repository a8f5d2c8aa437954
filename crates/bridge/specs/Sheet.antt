-- A sheet's finished table in the theory and as lists: what a completion that works over the theory's loads has shown.
-- Assumes nothing.
use Rattle.std.specs.Prelude.{ℕ, ◌≤◌, ◌≡◌, List, ◌++◌, length, ℤ}
use Rattle.std.proofs.Common.{ap, sym, subst, ◌∙◌}
use Rattle.std.proofs.lemmas.List.{length-map}
use Rattle.terms.specs.Swaps.{Swap, Reaches}
use Rattle.terms.specs.Table.{Row, Finished}
use Rattle.laws.specs.Order.{before_laws}
use Rattle.theory.specs.Kit.{Kit}
use Rattle.theory.specs.Rows.{Row as RowOf}
use Rattle.theory.specs.Critical.{New}
use Rattle.theory.specs.Unique.{Sorted as InOrder}
use Rattle.theory.specs.Room.{rows_so_far}
use Rattle.theory.specs.Finished.{Finished as FinishedIn}
use Rattle.bridge.specs.Instance.{Load}
use Rattle.bridge.specs.Rows.{plain, plain_table, IsSheet}
use Rattle.bridge.specs.Tables.{ByCounts, finished_down, finished_loads}
use Rattle.bridge.specs.Regular.{IsKit, loads_kit, ReachOf, reaches_alike, reaches_matches}

module _ {n : ℕ} {sizes : List ℕ} (costs : List ℤ) (kit : IsKit n sizes) (sheet : List Swap) (swaps : IsSheet n sizes sheet) (bound : ℕ) where
  abbrev K : Kit
  K = loads_kit costs kit

  pub sheet_finished : (T : List (RowOf (Load n))) → FinishedIn K ByCounts (ReachOf costs kit sheet swaps) bound T → Finished n bound sizes costs (Reaches sheet) (plain_table T)
  sheet_finished = finished_down n sizes kit.of_sizes kit.from_one costs (before_laws costs n) (Reaches sheet) (ReachOf costs kit sheet swaps) (reaches_alike costs kit sheet swaps) (reaches_matches costs kit sheet swaps) bound

  pub finished_sheet : (T : List Row) → Finished n bound sizes costs (Reaches sheet) T → (U : List (RowOf (Load n))) × (plain_table U ≡ T) × FinishedIn K ByCounts (ReachOf costs kit sheet swaps) bound U
  finished_sheet = finished_loads n sizes kit.of_sizes kit.from_one costs (before_laws costs n) (Reaches sheet) (ReachOf costs kit sheet swaps) (reaches_alike costs kit sheet swaps) (reaches_matches costs kit sheet swaps) bound

  -- the rows found by grade g are no more than those of the finished table, whichever is given
  pub found_no_more :
      (g : ℕ) → g ≤ bound → (T₀ N : List (RowOf (Load n))) → New K (ReachOf costs kit sheet swaps) g T₀ N → InOrder (λ a b. ¬ (a.head ≡ b.head)) (T₀ ++ N)
      → (T : List Row) → Finished n bound sizes costs (Reaches sheet) T → length (T₀ ++ N) ≤ length T
  found_no_more g l T₀ N new apart T f =
      let t = finished_sheet T f in
      let same : length (plain_table t.0) ≡ length T = ap length t.1 in
      subst (λ (k : ℕ). length (T₀ ++ N) ≤ k) (sym (length-map t.0 plain) ∙ same) (rows_so_far K (ReachOf costs kit sheet swaps) (reaches_alike costs kit sheet swaps) g bound l T₀ N t.0 new apart t.2.rows)
