-- One turn of reading loads, and one of reading swaps; that what is written reads back is proved in `proofs/Back`. Assumes nothing.
use Rattle.std.specs.Prelude.{ℕ, ◌+◌, ◌≡◌, refl, List, [], ◌∷◌, ◌++◌, cond}
use Rattle.terms.specs.Limits.{most_loads}
use Rattle.lines.specs.Fields.{word_of}
use Rattle.shapes.specs.Split.{split, first, rest, is_word}
use Rattle.records.specs.Lines.{Pieces, after, counts_line, swap_line}
use Rattle.sheet.specs.Sheet.{Records, load_lines, loads_after, swap_lines}

-- so many records with these counts
abbrev pub recorded : ℕ → List ℕ → Records
recorded used so = record { number = used; counts = so }

-- ## The loads

module _ (n from : ℕ) where
  pub load_turn : (used : ℕ) (so l : List ℕ) (ps : Pieces) → ps ≡ first ps ∷ rest ps
      → load_lines n from used so (l ∷ ps) ≡ after (counts_line (from + used) 4 n used most_loads (l ∷ ps)) (λ r. load_lines n from (used + 1) (so ++ r.0) ps)
  unfolding load_lines
  load_turn used so l [] e = cc
  load_turn used so l (m ∷ ls) e = refl

-- ## The swaps

module _ (n : ℕ) (sizes : List ℕ) where
  pub swap_turn : (used : ℕ) (so l : List ℕ) (ps : Pieces) → ps ≡ first ps ∷ rest ps
      → swap_lines n sizes used so (l ∷ ps)
      ≡ cond (is_word 3 (word_of (first (split 9 l)))) (after (swap_line (4 + used) n sizes used (l ∷ ps)) (λ r. swap_lines n sizes (used + 1) (so ++ r.0) ps)) (loads_after n used so (l ∷ ps))
  unfolding swap_lines
  swap_turn used so l [] e = cc
  swap_turn used so l (m ∷ ls) e = refl
