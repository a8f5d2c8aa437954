-- Rows laid flat as rows of m counts a side: widened where they have fewer, and cut back where they were widened before.
--     resize_more       one row more
--     resize_next       and that of a table
--     resize_flat       and that of a flat table
--     table_resized     the rows read again
--     resized_read      and those of a flat table
--     swaps_widened     a flat sheet, widened, read as swaps
--     cut_back          rows of n counts a side, widened and cut back, are the rows
-- Assumes nothing.
use Rattle.std.specs.Prelude.{ℕ, ◌+◌, ◌*◌, ◌-◌, ◌≤◌, ◌<◌, ◌≡◌, refl, List, [], ◌∷◌, ◌++◌, map, length, get_or, take, drop}
use Rattle.std.proofs.Common.{sym, ap, ap₂, subst, ◌∙◌, append-nil, arith, length-append, length-take, length-take-le, length-drop, take_all, take_at}
use Rattle.std.proofs.lemmas.List.{map-append, length-replicate, length-map, take_more}
use Rattle.terms.specs.Load.{zeros}
use Rattle.terms.specs.Limits.{All, most_kinds}
use Rattle.terms.specs.Table.{Row}
use Rattle.terms.specs.Flat.{numbered, row_at, swap_at, table_of, laid, filled}
use Rattle.laws.specs.Load.{all_members}
use Rattle.laws.specs.Numbered.{numbered_long, numbered_more}
use Rattle.laws.specs.Flat.{Sides, table_sided}
use Rattle.laws.specs.Laid.{side, over, filled_more, table_laid, as_swap, swaps_rows, row_same}
use Rattle.padding.specs.Widen.{widen, widen_swap, widen_row, resize, resize_row}

-- ---- one side

pub resize_long : (m : ℕ) (x : List ℕ) → length (resize m x) ≡ m
resize_long m x = omega (arith, length-append (take m x) (zeros (m - length x)), length-take m x, length-replicate {A = ℕ} (m - length x) 0)

-- the counts that there is room for, and 0 after them
resize_part : (m : ℕ) (x : List ℕ) → side m (take m x) ≡ resize m x
resize_part m x =
    let z : m - length (take m x) ≡ m - length x = omega (arith, length-take m x) in
    ap (λ (i : ℕ). take m x ++ zeros i) z

pub resize_widens : (n : ℕ) (x : List ℕ) → n ≤ most_kinds → length x ≡ n → resize most_kinds x ≡ widen n x
resize_widens n x few e =
    ap₂ (λ (y : List ℕ) (i : ℕ). y ++ zeros (most_kinds - i)) (take_all most_kinds x (omega arith)) e

resize_cuts : (n : ℕ) (x : List ℕ) → n ≤ most_kinds → length x ≡ n → resize n (widen n x) ≡ x
resize_cuts n x few e =
    let z : n - length (widen n x) ≡ 0 = omega (arith, length-append x (zeros (most_kinds - n)), length-replicate {A = ℕ} (most_kinds - n) 0) in
    ap₂ (λ (y : List ℕ) (i : ℕ). y ++ zeros i) (take_at x (zeros (most_kinds - n)) n e) z ∙ append-nil x

-- ---- rows

all_sides : (m : ℕ) (T : List Row) → All (Sides m) (map (resize_row m) T)
all_sides m [] = tt
all_sides m (a ∷ T) = (record { of_head = resize_long m a.head; of_tail = resize_long m a.tail }, all_sides m T)

abbrev pub resized : ℕ → List Row → List Row
resized m T = map (resize_row m) T

-- a table with two sides written as its row r of m counts a side
abbrev pub sides_over : ℕ → List ℕ → List ℕ → ℕ → List ℕ → List ℕ
sides_over m x y r out = over (over out (r * (2 * m)) (take m x)) (r * (2 * m) + m) (take m y)

-- and with a row
abbrev pub row_over : ℕ → Row → ℕ → List ℕ → List ℕ
row_over m a r out = sides_over m a.head a.tail r out

pub over_long : (l : List ℕ) (at : ℕ) (x : List ℕ) → at + length x ≤ length l → length (over l at x) ≡ length l
over_long l at x h =
    omega (arith, length-append (take at l) (x ++ drop (at + length x) l), length-append x (drop (at + length x) l), length-take at l, length-drop (at + length x) l)

side_fits : (m : ℕ) (z : List ℕ) → length (take m z) ≤ m
side_fits m z = omega (arith, length-take m z)

module _ (m long : ℕ) (a : Row) where
  -- after the rows so far, a row written is one row more
  pub resize_more : (T : List Row) → length T * (2 * m) + 2 * m ≤ long → (out : List ℕ) → out ≡ filled long (resized m T) → row_over m a (length T) out ≡ filled long (resized m (T ++ (a ∷ [])))
  resize_more T room out d =
      let w : length (resized m T) ≡ length T = length-map T (resize_row m) in
      let there : Row = record { head = side m (take m a.head); tail = side m (take m a.tail) } in
      let more = filled_more m long (resized m T) (take m a.head) (take m a.tail) (all_sides m T) (side_fits m a.head) (side_fits m a.tail) (subst (λ (i : ℕ). i * (2 * m) + 2 * m ≤ long) (sym w) room) in
      ap (row_over m a (length T)) d
      ∙ subst (λ (i : ℕ). row_over m a i (filled long (resized m T)) ≡ filled long (resized m T ++ (there ∷ []))) w more
      ∙ ap (λ (b : Row). filled long (resized m T ++ (b ∷ []))) (row_same (resize_part m a.head) (resize_part m a.tail))
      ∙ ap (filled long) (sym (map-append (resize_row m) T (a ∷ [])))

  pub row_over_long : (r : ℕ) → r * (2 * m) + 2 * m ≤ long → (out : List ℕ) → length out ≡ long → length (row_over m a r out) ≡ long
  row_over_long r room out e =
      let first : length (over out (r * (2 * m)) (take m a.head)) ≡ length out = over_long out (r * (2 * m)) (take m a.head) (omega (arith, side_fits m a.head)) in
      over_long (over out (r * (2 * m)) (take m a.head)) (r * (2 * m) + m) (take m a.tail) (omega (arith, side_fits m a.tail)) ∙ first ∙ e

-- row r of a table, after the rows before it
pub resize_next : (m long : ℕ) (T : List Row) (r : ℕ) (d : Row) → r < length T → r * (2 * m) + 2 * m ≤ long → (out : List ℕ) → out ≡ filled long (resized m (take r T)) → row_over m (get_or T r d) r out ≡ filled long (resized m (take (r + 1) T))
resize_next m long T r d h room out e =
    let a = get_or T r d in
    let at : length (take r T) ≡ r = length-take-le r T (omega arith) in
    subst (λ (i : ℕ). i * (2 * m) + 2 * m ≤ long → row_over m a i out ≡ filled long (resized m (take r T ++ (a ∷ [])))) at (λ l. resize_more m long a (take r T) l out e) room
    ∙ ap (λ (U : List Row). filled long (resized m U)) (sym (take_more T r d h))

-- and of a flat table
pub resize_flat : (n m long : ℕ) (flat : List ℕ) (r : ℕ) → r * (2 * m) + 2 * m ≤ long → (out : List ℕ) → out ≡ filled long (resized m (table_of n flat r)) → row_over m (row_at n flat r) r out ≡ filled long (resized m (table_of n flat (r + 1)))
resize_flat n m long flat r room out e =
    let a = row_at n flat r in
    let T = table_of n flat r in
    subst (λ (i : ℕ). i * (2 * m) + 2 * m ≤ long → row_over m a i out ≡ filled long (resized m (T ++ (a ∷ [])))) (numbered_long (row_at n flat) 0 r) (λ l. resize_more m long a T l out e) room
    ∙ ap (λ (U : List Row). filled long (resized m U)) (sym (numbered_more (row_at n flat) r))

-- ---- what is read again

pub table_resized : (m long : ℕ) (T : List Row) → table_of m (filled long (resized m T)) (length T) ≡ resized m T
table_resized m long T =
    ap (table_of m (filled long (resized m T))) (sym (length-map T (resize_row m)))
    ∙ table_laid m (resized m T) (zeros (long - length (laid (resized m T)))) (all_sides m T)

pub resized_read : (n m long : ℕ) (flat : List ℕ) (rows : ℕ) → table_of m (filled long (resized m (table_of n flat rows))) rows ≡ resized m (table_of n flat rows)
resized_read n m long flat rows =
    let T = table_of n flat rows in
    ap (table_of m (filled long (resized m T))) (sym (numbered_long (row_at n flat) 0 rows)) ∙ table_resized m long T

pub table_sides : (n rows : ℕ) (flat : List ℕ) → rows * (2 * n) ≤ length flat → All (Sides n) (table_of n flat rows)
table_sides n rows flat h = all_members (table_of n flat rows) (table_sided n rows flat h)

pub rows_widened : (n : ℕ) (T : List Row) → n ≤ most_kinds → All (Sides n) T → map (resize_row most_kinds) T ≡ map (widen_row n) T
rows_widened n [] few w = refl
rows_widened n (a ∷ T) few w =
    ap₂ ◌∷◌ (row_same (resize_widens n a.head few w.0.of_head) (resize_widens n a.tail few w.0.of_tail)) (rows_widened n T few w.1)

pub cut_back : (n : ℕ) (T : List Row) → n ≤ most_kinds → All (Sides n) T → map (resize_row n) (map (widen_row n) T) ≡ T
cut_back n [] few w = refl
cut_back n (a ∷ T) few w =
    ap₂ ◌∷◌ (row_same (resize_cuts n a.head few w.0.of_head) (resize_cuts n a.tail few w.0.of_tail)) (cut_back n T few w.1)

-- rows widened, read as swaps
as_swaps : (n : ℕ) (T : List Row) → map as_swap (map (widen_row n) T) ≡ map (widen_swap n) (map as_swap T)
as_swaps n [] = refl
as_swaps n (a ∷ T) = ap (λ l. widen_swap n (as_swap a) ∷ l) (as_swaps n T)

pub swaps_widened : (n k : ℕ) (flat out : List ℕ) → table_of most_kinds out k ≡ map (widen_row n) (table_of n flat k) → numbered (swap_at most_kinds out) 0 k ≡ map (widen_swap n) (numbered (swap_at n flat) 0 k)
swaps_widened n k flat out e =
    swaps_rows most_kinds out k
    ∙ ap (map as_swap) e
    ∙ as_swaps n (table_of n flat k)
    ∙ ap (map (widen_swap n)) (sym (swaps_rows n flat k))
