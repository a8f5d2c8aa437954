-- A sheet that is written within the limits reads back as what it was written from. Assumes nothing.
use Rattle.std.specs.Prelude.{ℕ, ◌+◌, ◌≤◌, ◌<◌, ◌≡◌, length, refl, List, [], ◌∷◌, ◌++◌, cond}
use Rattle.std.proofs.Common.{ap, sym, ap₂, ◌∙◌, arith, append-nil, append_assoc}
use Rattle.std.proofs.Math.Option.{Option}
use Rattle.terms.specs.Limits.{All, most_swaps, most_loads}
use Rattle.terms.specs.Swaps.{Swap}
use Rattle.lines.specs.Fields.{swap_word, load_word}
use Rattle.shapes.specs.Split.{Got, fine, split, is_word}
use Rattle.shapes.proofs.Parted.{some_piece}
use Rattle.records.specs.Lines.{Pieces, after, counts_line, swap_line}
use Rattle.print.specs.Lines.{digits, each}
use Rattle.sheet.specs.Sheet.{Records, load_lines, loads_after, swap_lines, sheet_of}
use Rattle.written.specs.Write.{Content, LoadFine, SwapFine, Within, sides, swap_text, load_text, text_of, sheet_for}
use Rattle.written.specs.Lines.{body, counted, swap_is_word, load_is_word, word_first}
use Rattle.written.specs.Back.{recorded, load_turn, swap_turn}
use Rattle.written.proofs.Lines.{line_split, kit_back, size_back, costs_back, counts_back, swap_back}

-- ## The loads

module _ (n from : ℕ) where
  load_step : (used : ℕ) (so x r : List ℕ) → LoadFine n x → used < most_loads → load_lines n from used so (split 10 (load_text x ++ r)) ≡ load_lines n from (used + 1) (so ++ x) (split 10 r)
  load_step used so x r h l =
      let parts = line_split counted load_is_word x r in
      ap (load_lines n from used so) parts
      ∙ load_turn n from used so (body digits load_word x) (split 10 r) (some_piece 10 r)
      ∙ ap (λ (g : Got (List ℕ × Pieces)). after g (λ q. load_lines n from (used + 1) (so ++ q.0) (split 10 r)))
      (ap (counts_line (from + used) 4 n used most_loads) (sym parts) ∙ counts_back load_is_word (from + used) n used most_loads x r h.0 l h.1)

  loads_back : (used : ℕ) (so : List ℕ) (loads : List (List ℕ)) → All (LoadFine n) loads → used + length loads ≤ most_loads
      → load_lines n from used so (split 10 (each load_text loads)) ≡ fine (recorded (used + length loads) (so ++ each (λ x. x) loads))
  unfolding load_lines split
  loads_back used so [] h l = ap fine (ap₂ recorded (omega arith) (sym (append-nil so)))
  loads_back used so (x ∷ loads) h l =
      load_step used so x (each load_text loads) h.0 (omega arith)
      ∙ loads_back (used + 1) (so ++ x) loads h.1 (omega arith)
      ∙ ap fine (ap₂ recorded (omega arith) (append_assoc so x (each (λ x. x) loads)))

-- ## The swaps

module _ (n : ℕ) (sizes : List ℕ) where
  swap_step : (used : ℕ) (so : List ℕ) (s : Swap) (r : List ℕ) → SwapFine n sizes s → used < most_swaps → swap_lines n sizes used so (split 10 (swap_text s ++ r)) ≡ swap_lines n sizes (used + 1) (so ++ sides s) (split 10 r)
  swap_step used so s r h l =
      let parts = line_split counted swap_is_word (sides s) r in
      let l₀ = body digits swap_word (sides s) in
      ap (swap_lines n sizes used so) parts
      ∙ swap_turn n sizes used so l₀ (split 10 r) (some_piece 10 r)
      ∙ ap (λ (w : Option ℕ). cond (is_word 3 w) (after (swap_line (4 + used) n sizes used (l₀ ∷ split 10 r)) (λ q. swap_lines n sizes (used + 1) (so ++ q.0) (split 10 r))) (loads_after n used so (l₀ ∷ split 10 r)))
      (word_first counted swap_is_word (sides s))
      ∙ ap (λ (g : Got (List ℕ × Pieces)). after g (λ q. swap_lines n sizes (used + 1) (so ++ q.0) (split 10 r)))
      (ap (swap_line (4 + used) n sizes used) (sym parts) ∙ swap_back (4 + used) n sizes used s r h l)

  -- no load is taken for a swap
  swaps_end : (used : ℕ) (so : List ℕ) (loads : List (List ℕ)) → swap_lines n sizes used so (split 10 (each load_text loads)) ≡ loads_after n used so (split 10 (each load_text loads))
  unfolding swap_lines split
  swaps_end used so [] = refl
  swaps_end used so (x ∷ loads) =
      let r = each load_text loads in
      let parts = line_split counted load_is_word x r in
      let l₀ = body digits load_word x in
      ap (swap_lines n sizes used so) parts
      ∙ swap_turn n sizes used so l₀ (split 10 r) (some_piece 10 r)
      ∙ ap (λ (w : Option ℕ). cond (is_word 3 w) (after (swap_line (4 + used) n sizes used (l₀ ∷ split 10 r)) (λ q. swap_lines n sizes (used + 1) (so ++ q.0) (split 10 r))) (loads_after n used so (l₀ ∷ split 10 r)))
      (word_first counted load_is_word x)
      ∙ ap (loads_after n used so) (sym parts)

  module _ (loads : List (List ℕ)) (h : All (LoadFine n) loads) (few : length loads ≤ most_loads) where
    abbrev read : Records
    read = recorded (length loads) (each (λ x. x) loads)

    rest_back : (used : ℕ) (so : List ℕ) (swaps : List Swap) → All (SwapFine n sizes) swaps → used + length swaps ≤ most_swaps
        → swap_lines n sizes used so (split 10 (each swap_text swaps ++ each load_text loads)) ≡ fine (recorded (used + length swaps) (so ++ each sides swaps), read)
    rest_back used so [] k l =
        let e : 0 + length loads ≡ length loads = omega arith in
        swaps_end used so loads
        ∙ ap (λ (g : Got Records). after g (λ q. fine (recorded used so, q))) (loads_back n (4 + used) 0 [] loads h (omega arith) ∙ ap (λ (k : ℕ). fine (recorded k (each (λ x. x) loads))) e)
        ∙ ap (λ (q : Records). fine (q, read)) (ap₂ recorded (omega arith) (sym (append-nil so)))
    rest_back used so (s ∷ swaps) k l =
        ap (λ (t : List ℕ). swap_lines n sizes used so (split 10 t)) (append_assoc (swap_text s) (each swap_text swaps) (each load_text loads))
        ∙ swap_step used so s (each swap_text swaps ++ each load_text loads) k.0 (omega arith)
        ∙ rest_back (used + 1) (so ++ sides s) swaps k.1 (omega arith)
        ∙ ap (λ (q : Records). fine (q, read)) (ap₂ recorded (omega arith) (append_assoc so (sides s) (each sides swaps)))

    after_costs : (swaps : List Swap) → All (SwapFine n sizes) swaps → length swaps ≤ most_swaps
        → swap_lines n sizes 0 [] (split 10 (each swap_text swaps ++ each load_text loads)) ≡ fine (recorded (length swaps) (each sides swaps), read)
    after_costs swaps k l =
        let e : 0 + length swaps ≡ length swaps = omega arith in
        rest_back 0 [] swaps k (omega arith) ∙ ap (λ (j : ℕ). fine (recorded j (each sides swaps), read)) e

-- ## The sheet

pub reads_back : (c : Content) → Within c → sheet_of (text_of c) ≡ fine (sheet_for c)
reads_back c w =
    rw (
      kit_back c.kinds c.bound _ w.kinds_fine w.bound_fine,
      size_back c.kinds c.sizes _ w.sized w.sizes_fine,
      costs_back c.kinds c.costs _ w.costed w.costs_fine,
      after_costs c.kinds c.sizes c.loads w.loads_fine w.loads_few c.swaps w.swaps_fine w.swaps_few,
    )
