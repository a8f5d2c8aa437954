-- Rows laid as rows of 12 counts a side are the rows widened.
--     rows_laid      as rows
--     swaps_laid     and read as swaps
-- Assumes nothing.
use Rattle.std.specs.Prelude.{ℕ, ◌*◌, ◌≤◌, ◌≡◌, List, map, length}
use Rattle.std.proofs.Common.{ap, ◌∙◌}
use Rattle.terms.specs.Limits.{most_kinds}
use Rattle.terms.specs.Flat.{numbered, swap_at, table_of, filled}
use Rattle.padding.specs.Widen.{widen_swap, widen_row, resize_row}
use Rattle.padding.specs.Resize.{rows_widened, table_sides, resized_read, swaps_widened}

module _ (n k long : ℕ) (swaps : List ℕ) (few : n ≤ most_kinds) (lies : k * (2 * n) ≤ length swaps) (out : List ℕ) (e : out ≡ filled long (map (resize_row most_kinds) (table_of n swaps k))) where
  wide : map (resize_row most_kinds) (table_of n swaps k) ≡ map (widen_row n) (table_of n swaps k)
  wide = rows_widened n (table_of n swaps k) few (table_sides n k swaps lies)

  pub rows_laid : out ≡ filled long (map (widen_row n) (table_of n swaps k))
  rows_laid = e ∙ ap (filled long) wide

  pub swaps_laid : numbered (swap_at most_kinds out) 0 k ≡ map (widen_swap n) (numbered (swap_at n swaps) 0 k)
  swaps_laid = swaps_widened n k swaps out (ap (λ (l : List ℕ). table_of most_kinds l k) e ∙ resized_read n most_kinds long swaps k ∙ wide)
