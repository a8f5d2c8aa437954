-- Runs of bytes, one after the other. Assumes nothing.
use Rattle.std.proofs.Common.{ℕ, ◌+◌, ◌<◌, ◌≤◌, ◌≡◌, refl, sym, ap, ◌∙◌, suc, List, [], ◌∷◌, ◌++◌, length, get_or, take, drop, append_assoc, append-nil, take-append-drop, take-suc, drop-cons, add-one, length-append, arith}
use Rattle.std.proofs.lemmas.List.{take_all}
use Rattle.std.proofs.lemmas.List.Edits.{sets, sets-eq}
use Rattle.std.proofs.lemmas.Slice.{put_mid-paste}
use borrow.Rule.Slice.PartMut.{put_mid}
use Rattle.print.specs.Lines.{each, field, counts_end, rule_line, refused_line, Room}

-- the runs that a line is written in
counts_more : (x : ℕ) (xs : List ℕ) → field x ++ counts_end xs ≡ counts_end (x ∷ xs)
counts_more x xs = sym (append_assoc (field x) (each field xs) (10 ∷ []))

pub rule_runs : (grade : ℕ) (row : List ℕ) → (114 ∷ 117 ∷ 108 ∷ 101 ∷ []) ++ (field grade ++ counts_end row) ≡ rule_line grade row
rule_runs grade row = ap (λ (l : List ℕ). (114 ∷ 117 ∷ 108 ∷ 101 ∷ []) ++ l) (counts_more grade row)

pub refused_runs : (why at : ℕ) → (114 ∷ 101 ∷ 102 ∷ 117 ∷ 115 ∷ 101 ∷ 100 ∷ []) ++ (field why ++ (field at ++ counts_end [])) ≡ refused_line why at
refused_runs why at =
    ap (λ (l : List ℕ). (114 ∷ 101 ∷ 102 ∷ 117 ∷ 115 ∷ 101 ∷ 100 ∷ []) ++ l)
    (ap (λ (l : List ℕ). field why ++ l) (counts_more at []) ∙ counts_more why (at ∷ []))

-- A loop that stores the run of each element, one after the other.
module _ {A : Type 0} (f : A → List ℕ) where
  each_append : (xs ys : List A) → each f (xs ++ ys) ≡ each f xs ++ each f ys
  each_append [] ys = refl
  each_append (x ∷ xs) ys =
      ap (λ (l : List ℕ). f x ++ l) (each_append xs ys) ∙ sym (append_assoc (f x) (each f xs) (each f ys))

  each_split : (xs : List A) (i : ℕ) → each f xs ≡ each f (take i xs) ++ each f (drop i xs)
  each_split xs i = ap (each f) (sym (take-append-drop i xs)) ∙ each_append (take i xs) (drop i xs)

  pub each_snoc : (xs : List A) (x : A) → each f (xs ++ (x ∷ [])) ≡ each f xs ++ f x
  each_snoc xs x = each_append xs (x ∷ []) ∙ ap (λ (l : List ℕ). each f xs ++ l) (append-nil (f x))

module _ (f : ℕ → List ℕ) (xs : List ℕ) (i : ℕ) (h : i < length xs) where
  -- where all runs and a rest have room from a place on, so has the run of element i after those before it
  pub each_room : (rest : List ℕ) (from at room : ℕ) → at ≡ from + length (each f (take i xs)) → Room (each f xs ++ rest) from room → Room (f (get_or xs i 0)) at room
  each_room rest from at room moved has =
      let this = f (get_or xs i 0) in
      let later = each f (drop (suc i) xs) in
      let parts : each f xs ≡ each f (take i xs) ++ (this ++ later) = rw (each_split f xs i, drop-cons xs i 0 h) refl in
      omega (
        arith,
        has,
        moved,
        ap length parts,
        length-append (each f xs) rest,
        length-append (each f (take i xs)) (this ++ later),
        length-append this later,
      )

  pub each_next : each f (take i xs) ++ f (get_or xs i 0) ≡ each f (take (i + 1) xs)
  each_next = rw (add-one i, take-suc xs i 0 h) (sym (each_snoc f (take i xs) (get_or xs i 0)))

-- a part of the slice that holds the bytes is those bytes, stored
pub part_stored : (bytes o part : List ℕ) (at k : ℕ) → part ≡ bytes → length bytes ≡ k → at + length bytes ≤ length o → put_mid at k o part ≡ sets o at bytes
part_stored bytes o part at k is long has =
    put_mid-paste at k o part bytes (length bytes) is long refl
    ∙ ap (λ (l : List ℕ). (take at o ++ l) ++ drop (at + length bytes) o) (take_all (length bytes) bytes (omega arith))
    ∙ sym (sets-eq bytes o at has)
