-- The counts of a sheet, one record after the other, are the swaps and the loads that the definitions of the table speak of, whatever follows in the buffer.
-- Assumes nothing.
use Rattle.std.specs.Prelude.{ℕ, suc, ◌+◌, ◌*◌, ◌≤◌, ◌≡◌, refl, List, [], ◌∷◌, ◌++◌, map, length, take, drop}
use Rattle.std.proofs.Common.{sym, ap, ap₂, ◌∙◌, append-nil, append_assoc, arith, zero-mul, suc-mul, take_at}
use Rattle.std.proofs.Math.Seq.{drop-append-add}
use Rattle.std.proofs.lemmas.List.{length-map}
use Rattle.terms.specs.Limits.{All}
use Rattle.terms.specs.Swaps.{Swap}
use Rattle.terms.specs.Table.{Row}
use Rattle.terms.specs.Flat.{numbered, swap_at, table_of, laid, sheet_of}
use Rattle.laws.specs.Flat.{Sides, rows_are}
use Rattle.laws.specs.Laid.{as_swap, laid_long, table_laid, swaps_rows}
use Rattle.laws.specs.Numbered.{numbered_on, numbered_same}
use Rattle.print.specs.Lines.{each}
use Rattle.written.specs.Write.{LoadFine, SwapFine, sides}

-- ## The swaps

-- a swap as a row
abbrev as_row : Swap → Row
as_row s = record { head = s.left; tail = s.right }

swaps_laid : (swaps : List Swap) → laid (map as_row swaps) ≡ each sides swaps
swaps_laid [] = refl
swaps_laid (s ∷ swaps) = ap (λ (l : List ℕ). s.left ++ (s.right ++ l)) (swaps_laid swaps) ∙ sym (append_assoc s.left s.right (each sides swaps))

there_and_back : (swaps : List Swap) → map as_swap (map as_row swaps) ≡ swaps
there_and_back [] = refl
there_and_back (s ∷ swaps) = ap (λ (l : List Swap). s ∷ l) (there_and_back swaps)

rows_sided : (n : ℕ) (sizes : List ℕ) (swaps : List Swap) → All (SwapFine n sizes) swaps → All (Sides n) (map as_row swaps)
rows_sided n sizes [] h = tt
rows_sided n sizes (s ∷ swaps) h = (record { of_head = h.0.left_fine.0; of_tail = h.0.right_fine.0 }, rows_sided n sizes swaps h.1)

module _ (n : ℕ) (sizes : List ℕ) (swaps : List Swap) (h : All (SwapFine n sizes) swaps) where
  pub swaps_placed : (z : List ℕ) → numbered (swap_at n (each sides swaps ++ z)) 0 (length swaps) ≡ swaps
  swaps_placed z =
      swaps_rows n (each sides swaps ++ z) (length swaps)
      ∙ ap (map as_swap)
      (ap₂ (λ (l : List ℕ) (k : ℕ). table_of n (l ++ z) k) (sym (swaps_laid swaps)) (sym (length-map swaps as_row))
      ∙ table_laid n (map as_row swaps) z (rows_sided n sizes swaps h))
      ∙ there_and_back swaps

  -- the sheet of the counts read
  pub sheet_placed : 1 ≤ n → sheet_of n (each sides swaps) ≡ swaps
  sheet_placed l =
      let long : length (each sides swaps) ≡ length swaps * (2 * n) = ap length (sym (swaps_laid swaps)) ∙ laid_long n (map as_row swaps) (rows_sided n sizes swaps h) ∙ ap (λ (k : ℕ). k * (2 * n)) (length-map swaps as_row) in
      ap₂ (λ (f : List ℕ) (k : ℕ). numbered (swap_at n f) 0 k) (sym (append-nil (each sides swaps))) (rows_are n (length (each sides swaps)) (length swaps) l long)
      ∙ swaps_placed []

-- ## The loads

-- load i of flat counts
abbrev load_at : ℕ → List ℕ → ℕ → List ℕ
load_at n flat i = take n (drop (i * n) flat)

load_next : (n : ℕ) (x z : List ℕ) → length x ≡ n → (i : ℕ) → load_at n (x ++ z) (suc i) ≡ load_at n z i
load_next n x z e i =
    let d : suc i * n ≡ length x + i * n = omega (arith, suc-mul i n) in
    ap (λ (k : ℕ). take n (drop k (x ++ z))) d ∙ ap (take n) (drop-append-add x z (i * n))

pub loads_placed : (n : ℕ) (loads : List (List ℕ)) → All (LoadFine n) loads → (z : List ℕ) → numbered (load_at n (each (λ x. x) loads ++ z)) 0 (length loads) ≡ loads
loads_placed n [] h z = refl
loads_placed n (x ∷ loads) h z =
    let rest = each (λ x. x) loads ++ z in
    ap (λ (l : List ℕ). numbered (load_at n l) 0 (suc (length loads))) (append_assoc x (each (λ x. x) loads) z)
    ∙ ap₂ ◌∷◌
    (ap (λ (k : ℕ). take n (drop k (x ++ rest))) (zero-mul n) ∙ take_at x rest n h.0.0)
    (numbered_on (load_at n (x ++ rest)) 0 (length loads) ∙ numbered_same _ _ (length loads) (λ i l. load_next n x rest h.0.0 i) ∙ loads_placed n loads h.1 z)
