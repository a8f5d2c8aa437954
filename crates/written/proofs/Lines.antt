-- Each line as it is written reads back as its values, with the text after it. Assumes nothing.
use Rattle.std.specs.Prelude.{ℕ, ◌*◌, ◌≤◌, ◌<◌, ◌≡◌, false, ℤ, length, refl, List, [], ◌∷◌, ◌++◌, eqb}
use Rattle.std.proofs.Common.{sym, ap, ◌∙◌, arith, length-append, take_at, drop_at, le-leb, lt-ltb, eq-eqb, append_assoc}
use Rattle.std.proofs.Math.Option.{Option, some}
use Rattle.terms.specs.Load.{grade}
use Rattle.terms.specs.Limits.{All, KindsFine, BoundFine, SizeFine, CostFine, most_kinds, most_bound, most_size, most_swaps, most_count}
use Rattle.terms.specs.Swaps.{Swap}
use Rattle.lines.specs.Fields.{kit_word, size_word, cost_word}
use Rattle.shapes.specs.Split.{fine, split, shaped, lined, read_line, cost_of}
use Rattle.shapes.proofs.Parted.{some_piece}
use Rattle.records.specs.Lines.{Pieces, within, kit_line, size_line, cost_fine, cost_line, counts_line, sides_of, swap_line}
use Rattle.print.specs.Lines.{digits, each}
use Rattle.written.specs.Write.{SwapFine, line_of, cost_digits, sides, swap_text}
use Rattle.written.specs.Parts.{all_append, split_at, fields_free}
use Rattle.written.specs.Lines.{Fields, counted, Word, body, shaped_back, kit_is_word, size_is_word, cost_is_word, swap_is_word, all_pass, in_range, two_runs}
use Rattle.written.proofs.Spelled.{cost_back, cost_free}

pub priced : Fields cost_of cost_digits
priced = record { back = cost_back; no_tab = cost_free 9 (omega arith); no_feed = cost_free 10 (omega arith) }

module _ {A : Type 0} {num : List ℕ → Option A} {spell : A → List ℕ} (f : Fields num spell) where
  module _ {w : ℕ} {word : List ℕ} (t : Word w word) (values : List A) where
    pub line_split : (r : List ℕ) → split 10 (line_of spell word values ++ r) ≡ body spell word values ∷ split 10 r
    unfolding line_of
    line_split r =
        ap (split 10)
        (append_assoc word (each (λ v. 9 ∷ spell v) values ++ (10 ∷ [])) r
        ∙ ap (λ (l : List ℕ). word ++ l) (append_assoc (each (λ v. 9 ∷ spell v) values) (10 ∷ []) r)
        ∙ sym (append_assoc word (each (λ v. 9 ∷ spell v) values) (10 ∷ r)))
        ∙ split_at 10 (body spell word values) r (all_append (λ c. eqb c 10 ≡ false) word (each (λ v. 9 ∷ spell v) values) t.no_feed (fields_free spell f.no_feed values))

    pub line_back : (at k : ℕ) (r : List ℕ) → length values ≡ k → read_line at (shaped w num k) (split 10 (line_of spell word values ++ r)) ≡ fine (values, split 10 r)
    line_back at k r e =
        rw (line_split r, shaped_back f t values k e)
        (ap (lined at (some values)) (some_piece 10 r) ∙ ap (λ (ps : Pieces). fine (values, ps)) (sym (some_piece 10 r)))

-- ## The lines of a sheet

pub kit_back : (n b : ℕ) (r : List ℕ) → KindsFine n → BoundFine b → kit_line (split 10 (line_of digits kit_word (n ∷ b ∷ []) ++ r)) ≡ fine (record { kinds = n; bound = b }, split 10 r)
kit_back n b r h k =
    rw (line_back counted kit_is_word (n ∷ b ∷ []) 1 2 r refl, in_range 1 most_kinds n h.0 h.1, in_range 1 most_bound b k.0 k.1)

pub size_back : (n : ℕ) (sizes r : List ℕ) → length sizes ≡ n → All SizeFine sizes → size_line n (split 10 (line_of digits size_word sizes ++ r)) ≡ fine (sizes, split 10 r)
size_back n sizes r e h =
    rw (line_back counted size_is_word sizes 2 n r e, all_pass SizeFine (within 1 most_size) (λ v k. in_range 1 most_size v k.0 k.1) sizes h)

pub costs_back : (n : ℕ) (costs : List ℤ) (r : List ℕ) → length costs ≡ n → All CostFine costs → cost_line n (split 10 (line_of cost_digits cost_word costs ++ r)) ≡ fine (costs, split 10 r)
costs_back n costs r e h =
    rw (line_back priced cost_is_word costs 3 n r e, all_pass CostFine cost_fine (λ z k. le-leb _ _ k) costs h)

pub counts_back : {w : ℕ} {word : List ℕ} → Word w word → (at width used room : ℕ) (values r : List ℕ) → length values ≡ width → used < room → All (λ v. v ≤ most_count) values
    → counts_line at w width used room (split 10 (line_of digits word values ++ r)) ≡ fine (values, split 10 r)
counts_back t at width used room values r e l h =
    rw (line_back counted t values at width r e, lt-ltb used room l, all_pass (λ v. v ≤ most_count) (within 0 most_count) (λ v k. in_range 0 most_count v (omega arith) k) values h)

sides_back : (at n : ℕ) (sizes : List ℕ) (s : Swap) (ps : Pieces) → SwapFine n sizes s → sides_of at n sizes (sides s, ps) ≡ fine (sides s, ps)
sides_back at n sizes s ps h =
    rw (
      take_at s.left s.right n h.left_fine.0,
      drop_at s.left s.right n h.left_fine.0,
      two_runs s.left s.right h.differ,
      eq-eqb (grade sizes s.left) (grade sizes s.right) h.one_grade,
    )

pub swap_back : (at n : ℕ) (sizes : List ℕ) (used : ℕ) (s : Swap) (r : List ℕ) → SwapFine n sizes s → used < most_swaps → swap_line at n sizes used (split 10 (swap_text s ++ r)) ≡ fine (sides s, split 10 r)
swap_back at n sizes used s r h l =
    rw (counts_back swap_is_word at (2 * n) used most_swaps (sides s) r (omega (arith, length-append s.left s.right, h.left_fine.0, h.right_fine.0)) l (all_append (λ v. v ≤ most_count) s.left s.right h.left_fine.1 h.right_fine.1))
    (sides_back at n sizes s (split 10 r) h)
