-- PADDING CHANGES NOTHING. The finished table of a kit of n kinds, widened, is that of the kit of 12 kinds by weight, and there is no other.
--     widened_finished     from the finished table of n kinds to that of 12
--     narrowed_finished    and back: each finished table of the 12 kinds is one of the n kinds, widened
--     cut_finished         which is got by cutting its sides back to n counts
-- Assumes nothing.
use Rattle.std.specs.Prelude.{ℕ, ◌≡◌, List, map, length, ℤ, pos}
use Rattle.std.proofs.Common.{sym, ap, subst, ◌∙◌, arith, length-take-le}
use Rattle.std.proofs.lemmas.Simd.{map-map}
use Rattle.terms.specs.Swaps.{◌∈◌, Swap, Reaches}
use Rattle.terms.specs.Limits.{most_kinds}
use Rattle.terms.specs.Table.{Row, Finished}
use Rattle.bridge.specs.Carry.{mem_unmap}
use Rattle.bridge.specs.Rows.{IsSheet}
use Rattle.padding.specs.Widen.{FineKit, widen_swap, widen_row, widen_sizes, widen_costs, weights, resize_row}
use Rattle.padding.specs.Kinds.{costs_long}
use Rattle.padding.specs.Resize.{cut_back}
use Rattle.padding.specs.Weigh.{Agree, finished_same}
use Rattle.padding.specs.Padded.{narrow_row, map_same, length_sizes, wide_sizes_fine, wide_costs_fine, Wide, cost_wide, cost_narrow, rows_wide, wide_regular, finished_sides}
use Rattle.padding.proofs.Weights.{before_weigh, weigh_before}

module _ {n : ℕ} {sizes : List ℕ} {costs : List ℤ} {sheet : List Swap} (fine : FineKit n sizes costs) (swaps : IsSheet n sizes sheet) (bound : ℕ) where
  even : length (widen_costs n costs) ≡ length (widen_sizes n sizes)
  even = costs_long n sizes costs fine ∙ sym (length_sizes fine swaps bound)

  on : Agree most_kinds (widen_sizes n sizes) (widen_costs n costs) (map pos (weights n sizes costs))
  on = before_weigh most_kinds (widen_sizes n sizes) (widen_costs n costs) even (wide_sizes_fine fine swaps bound) (wide_costs_fine fine swaps bound)

  back : Agree most_kinds (widen_sizes n sizes) (map pos (weights n sizes costs)) (widen_costs n costs)
  back = weigh_before most_kinds (widen_sizes n sizes) (widen_costs n costs) even (wide_sizes_fine fine swaps bound) (wide_costs_fine fine swaps bound)

  -- The finished table, widened, is the finished table of the 12 kinds by weight.
  pub widened_finished : {T : List Row} → Finished n bound sizes costs (Reaches sheet) T → Finished most_kinds bound (widen_sizes n sizes) (map pos (weights n sizes costs)) (Reaches (map (widen_swap n) sheet)) (map (widen_row n) T)
  widened_finished f = finished_same (wide_regular fine swaps bound) bound (widen_costs n costs) (map pos (weights n sizes costs)) on back (cost_wide fine swaps bound f)

  -- And each finished table of the 12 kinds is that of the n kinds, widened.
  pub narrowed_finished :
      (U : List Row) → Finished most_kinds bound (widen_sizes n sizes) (map pos (weights n sizes costs)) (Reaches (map (widen_swap n) sheet)) U
      → (T : List Row) × Finished n bound sizes costs (Reaches sheet) T × (map (widen_row n) T ≡ U)
  narrowed_finished U f =
      let c : Wide fine swaps bound (widen_costs n costs) U = finished_same (wide_regular fine swaps bound) bound (map pos (weights n sizes costs)) (widen_costs n costs) back on f in
      let T : List Row = map (narrow_row n) U in
      let w : map (widen_row n) T ≡ U = map-map (widen_row n) (narrow_row n) U ∙ map_same (λ a. widen_row n (narrow_row n a)) U (rows_wide fine swaps bound U c) in
      (T, cost_narrow fine swaps bound T long (rw w c), w)
    where
      long : (a : Row) → a ∈ map (narrow_row n) U → length a.head ≡ n
      long a m =
          let r = mem_unmap (narrow_row n) U m in
          ap (λ (b : Row). length b.head) (sym r.2) ∙ length-take-le n r.0.head (omega (arith, fine.few, (f.heads r.0 r.1).counts))

  -- So the 12 kinds' finished table, its sides cut back to n counts, is the finished table.
  pub cut_finished : (U : List Row) → Finished most_kinds bound (widen_sizes n sizes) (map pos (weights n sizes costs)) (Reaches (map (widen_swap n) sheet)) U → Finished n bound sizes costs (Reaches sheet) (map (resize_row n) U)
  cut_finished U f =
      let t = narrowed_finished U f in
      let e : t.0 ≡ map (resize_row n) U = sym (cut_back n t.0 fine.few (finished_sides fine swaps bound t.0 t.1)) ∙ ap (map (resize_row n)) t.2 in
      subst (Finished n bound sizes costs (Reaches sheet)) e t.1
