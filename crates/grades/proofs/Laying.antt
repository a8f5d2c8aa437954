-- Rows laid in a flat table, one after the other.
--     laying_none, laying_turn       what the loop keeps, before it and after each row
--     laid_rows, laid_rest           and what it leaves
-- Assumes nothing.
use Rattle.std.specs.Prelude.{ℕ, ◌+◌, ◌-◌, ◌*◌, ◌≤◌, ◌<◌, ◌≡◌, refl, List, [], ◌∷◌, ◌++◌, length, get_or, take, drop}
use Rattle.std.proofs.Common.{sym, ap, ap₂, subst, ◌∙◌, append_assoc, append-nil, arith, length-take, length-drop, length-take-le, take_at, drop_at, take_all}
use Rattle.std.proofs.lemmas.List.{take_more, drop-drop}
use Rattle.std.proofs.lemmas.Slice.{take-put_mid, drop-put_mid}
use Rattle.std.proofs.Math.Seq.{drop-append-add}
use borrow.Rule.Slice.PartMut.{put_mid}
use Rattle.terms.specs.Limits.{All}
use Rattle.terms.specs.Table.{Row}
use Rattle.terms.specs.Flat.{laid, table_of}
use Rattle.laws.specs.Flat.{Sides}
use Rattle.laws.specs.Laid.{laid_long, laid_append, table_laid, row_same}

-- the first r rows are laid, and what stands past them is as it was
pub record Laying (R : List Row) (before : List ℕ) (r : ℕ) (flat : List ℕ) : Type 0 where
  pub is : flat ≡ laid (take r R) ++ drop (r * 24) before
  pub sides : All (Sides 12) (take r R)

pub laying_none : (R : List Row) (before : List ℕ) → Laying R before 0 before
laying_none R before = record { is = refl; sides = tt }

-- ---- one row more

-- a part of 12 has 12 counts
pub part_long : (flat : List ℕ) (at e : ℕ) → e ≡ at + 12 → e ≤ length flat → length (take (e - at) (drop at flat)) ≡ 12
part_long flat at e d l = simp (length-take, length-drop) (omega arith)

-- two sides written one after the other
module _ (at : ℕ) (flat h t : List ℕ) (room : at + 24 ≤ length flat) (eh : length h ≡ 12) where
  two_written : put_mid (at + 12) (at + 24 - (at + 12)) (put_mid at (at + 12 - at) flat h) t ≡ take at flat ++ (h ++ (t ++ drop (at + 24) flat))
  two_written =
      let front : take (at + 12) (put_mid at (at + 12 - at) flat h) ≡ take at flat ++ h = take-put_mid at (at + 12 - at) flat h (at + 12) (omega arith) (omega arith) in
      let back : drop (at + 24 - (at + 12)) (drop (at + 12) (put_mid at (at + 12 - at) flat h)) ≡ drop (at + 24) flat =
      drop-drop (at + 24 - (at + 12)) (at + 12) (put_mid at (at + 12 - at) flat h)
      ∙ ap (λ (i : ℕ). drop i (put_mid at (at + 12 - at) flat h)) (omega arith)
      ∙ drop-put_mid at (at + 12 - at) flat h (at + 24) (omega arith) (omega arith) (omega arith) in
      ap₂ (λ (a b : List ℕ). a ++ (t ++ b)) front back ∙ append_assoc (take at flat) h (t ++ drop (at + 24) flat)

all_more : (T : List Row) (a : Row) → All (Sides 12) T → Sides 12 a → All (Sides 12) (T ++ (a ∷ []))
all_more [] a w s = (s, tt)
all_more (b ∷ T) a w s = (w.0, all_more T a w.1 s)

-- a row more, with what follows
laid_more : (T : List Row) (h t z : List ℕ) → laid (T ++ (record { head = h; tail = t } ∷ [])) ++ z ≡ laid T ++ (h ++ (t ++ z))
laid_more T h t z =
    ap (λ (l : List ℕ). l ++ z) (laid_append T (record { head = h; tail = t } ∷ []) ∙ ap (λ (l : List ℕ). laid T ++ (h ++ l)) (append-nil t))
    ∙ append_assoc (laid T) (h ++ t) z
    ∙ ap (λ (l : List ℕ). laid T ++ l) (append_assoc h t z)

module _ {R : List Row} {before : List ℕ} {r : ℕ} {flat : List ℕ} (s : Laying R before r flat) where
  module _ (l : r < length R) (room : length R * 24 ≤ length before) (long : length flat ≡ length before) where
    ends : length (laid (take r R)) ≡ r * 24
    ends = laid_long 12 (take r R) s.sides ∙ ap (λ (k : ℕ). k * 24) (length-take-le r R (omega arith))

    front : take (r * 24) flat ≡ laid (take r R)
    front = ap (take (r * 24)) s.is ∙ take_at (laid (take r R)) (drop (r * 24) before) (r * 24) ends

    back : drop (r * 24 + 24) flat ≡ drop ((r + 1) * 24) before
    back =
        let e : r * 24 + 24 ≡ length (laid (take r R)) + 24 = omega (arith, ends) in
        let d : r * 24 + 24 ≡ (r + 1) * 24 = omega arith in
        ap (drop (r * 24 + 24)) s.is
        ∙ ap (λ (i : ℕ). drop i (laid (take r R) ++ drop (r * 24) before)) e
        ∙ drop-append-add (laid (take r R)) (drop (r * 24) before) 24
        ∙ drop-drop 24 (r * 24) before
        ∙ ap (λ (i : ℕ). drop i before) d

    pub laying_turn :
        (d : Row) (h t : List ℕ) → h ≡ (get_or R r d).head → t ≡ (get_or R r d).tail → length h ≡ 12 → length t ≡ 12
        → Laying R before (r + 1) (put_mid (r * 24 + 12) (r * 24 + 24 - (r * 24 + 12)) (put_mid (r * 24) (r * 24 + 12 - r * 24) flat h) t)
    laying_turn d h t p q eh et =
        let more : take (r + 1) R ≡ take r R ++ (record { head = h; tail = t } ∷ []) = take_more R r d l ∙ ap (λ (a : Row). take r R ++ (a ∷ [])) (row_same (sym p) (sym q)) in
        record {
          is = two_written (r * 24) flat h t (omega arith) eh
              ∙ ap₂ (λ (a b : List ℕ). a ++ (h ++ (t ++ b))) front back
              ∙ sym (laid_more (take r R) h t (drop ((r + 1) * 24) before))
              ∙ ap (λ (T : List Row). laid T ++ drop ((r + 1) * 24) before) (sym more);
          sides = subst (All (Sides 12)) (sym more) (all_more (take r R) record { head = h; tail = t } s.sides record { of_head = eh; of_tail = et });
        }

  -- ---- all rows

  module _ {n : ℕ} (e : n ≡ length R) (l : n ≤ r) where
    whole : take r R ≡ R
    whole = take_all r R (omega arith)

    all_sides : All (Sides 12) R
    all_sides = subst (All (Sides 12)) whole s.sides

    now : flat ≡ laid R ++ drop (r * 24) before
    now = s.is ∙ ap (λ (T : List Row). laid T ++ drop (r * 24) before) whole

    pub laid_rows : table_of 12 flat n ≡ R
    laid_rows = ap₂ (λ (f : List ℕ) (k : ℕ). table_of 12 f k) now e ∙ table_laid 12 R (drop (r * 24) before) all_sides

    pub laid_rest : r ≤ n → drop (n * 24) flat ≡ drop (n * 24) before
    laid_rest m =
        let d : r * 24 ≡ n * 24 = omega arith in
        ap (drop (n * 24)) now
        ∙ drop_at (laid R) (drop (r * 24) before) (n * 24) (laid_long 12 R all_sides ∙ ap (λ (k : ℕ). k * 24) (sym e))
        ∙ ap (λ (i : ℕ). drop i before) d
