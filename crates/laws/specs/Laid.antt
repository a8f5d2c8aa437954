-- Rows laid flat, one after the other, and read again.
--     laid_long          rows of m counts a side take 2m numbers each
--     table_laid         the rows read from where they were laid are the rows
--     lay_side           a side written where only 0 follows, up to the m numbers that it has
--     filled_more        two sides written after the rows so far are one row more
-- Assumes nothing.
use Rattle.std.specs.Prelude.{ℕ, zero, suc, ◌+◌, ◌*◌, ◌-◌, ◌≤◌, ◌≡◌, refl, List, [], ◌∷◌, ◌++◌, map, length, take, drop}
use Rattle.std.proofs.Common.{sym, ap, ap₂, ◌∙◌, append_assoc, append-nil, arith, zero-mul, suc-mul, length-append, take_at, drop_at, length-take-le}
use Rattle.std.proofs.lemmas.List.{length-replicate, replicate-append-replicate}
use Rattle.std.proofs.Math.Seq.{drop-append-add, paste}
use Rattle.terms.specs.Load.{zeros}
use Rattle.terms.specs.Limits.{All}
use Rattle.terms.specs.Table.{Row}
use Rattle.terms.specs.Swaps.{Swap}
use Rattle.terms.specs.Flat.{numbered, row_at, swap_at, table_of, laid, filled}
use Rattle.laws.specs.Numbered.{numbered_same, numbered_map, numbered_on}
use Rattle.laws.specs.Flat.{Sides}

-- ---- rows of m counts a side

pub laid_long : (m : ℕ) (T : List Row) → All (Sides m) T → length (laid T) ≡ length T * (2 * m)
laid_long m [] w = sym (zero-mul (2 * m))
laid_long m (a ∷ T) w =
    omega (arith, length-append a.head (a.tail ++ laid T), length-append a.tail (laid T), w.0.of_head, w.0.of_tail, laid_long m T w.1, suc-mul (length T) (2 * m))

pub laid_append : (T U : List Row) → laid (T ++ U) ≡ laid T ++ laid U
laid_append [] U = refl
laid_append (a ∷ T) U =
    ap (λ (l : List ℕ). a.head ++ (a.tail ++ l)) (laid_append T U)
    ∙ ap (λ (l : List ℕ). a.head ++ l) (sym (append_assoc a.tail (laid T) (laid U)))
    ∙ sym (append_assoc a.head (a.tail ++ laid T) (laid U))

-- ---- what is read where rows were laid

pub row_same : {a b : Row} → a.head ≡ b.head → a.tail ≡ b.tail → a ≡ b
row_same p q = λ i. record { head = p i; tail = q i }

module _ (m : ℕ) (x y z : List ℕ) (p : length x ≡ m) (q : length y ≡ m) where
  row_first : row_at m (x ++ (y ++ z)) 0 ≡ record { head = x; tail = y }
  row_first =
      let e : 0 * (2 * m) + m ≡ m = omega (arith, zero-mul (2 * m)) in
      row_same
      (ap (λ (k : ℕ). take m (drop k (x ++ (y ++ z)))) (zero-mul (2 * m)) ∙ take_at x (y ++ z) m p)
      (ap (λ (k : ℕ). take m (drop k (x ++ (y ++ z)))) e ∙ ap (take m) (drop_at x (y ++ z) m p) ∙ take_at y z m q)

  past : (k j : ℕ) → j ≡ 2 * m + k → drop j (x ++ (y ++ z)) ≡ drop k z
  past k j e =
      let d : j ≡ length x + (length y + k) = omega arith in
      ap (λ (i : ℕ). drop i (x ++ (y ++ z))) d
      ∙ drop-append-add x (y ++ z) (length y + k)
      ∙ drop-append-add y z k

  row_next : (r : ℕ) → row_at m (x ++ (y ++ z)) (suc r) ≡ row_at m z r
  row_next r =
      row_same
      (ap (take m) (past (r * (2 * m)) (suc r * (2 * m)) (omega (arith, suc-mul r (2 * m)))))
      (ap (take m) (past (r * (2 * m) + m) (suc r * (2 * m) + m) (omega (arith, suc-mul r (2 * m)))))

pub table_laid : (m : ℕ) (T : List Row) (z : List ℕ) → All (Sides m) T → table_of m (laid T ++ z) (length T) ≡ T
table_laid m [] z w = refl
table_laid m (a ∷ T) z w =
    ap (λ (l : List ℕ). table_of m l (suc (length T))) (append_assoc a.head (a.tail ++ laid T) z ∙ ap (λ (l : List ℕ). a.head ++ l) (append_assoc a.tail (laid T) z))
    ∙ ap₂ ◌∷◌ (row_first m a.head a.tail (laid T ++ z) w.0.of_head w.0.of_tail) (numbered_on (row_at m (a.head ++ (a.tail ++ (laid T ++ z)))) 0 (length T) ∙ numbered_same _ _ (length T) (λ r l. row_next m a.head a.tail (laid T ++ z) w.0.of_head w.0.of_tail r) ∙ table_laid m T z w.1)

-- the swaps of a flat table are its rows
abbrev pub as_swap : Row → Swap
as_swap a = record { left = a.head; right = a.tail }

pub swaps_rows : (n : ℕ) (flat : List ℕ) (k : ℕ) → numbered (swap_at n flat) 0 k ≡ map as_swap (table_of n flat k)
swaps_rows n flat k = sym (numbered_map as_swap (row_at n flat) 0 k)

-- ---- writing

-- the list with x written over it from `at` on
abbrev pub over : List ℕ → ℕ → List ℕ → List ℕ
over l at x = take at l ++ (x ++ drop (at + length x) l)

-- a copy of the first k
pub over_copied : (l x : List ℕ) (at k : ℕ) → k ≤ length x → paste l at x k ≡ over l at (take k x)
over_copied l x at k h =
    append_assoc (take at l) (take k x) (drop (at + k) l)
    ∙ ap (λ (i : ℕ). take at l ++ (take k x ++ drop (at + i) l)) (sym (length-take-le k x h))

drop_zeros : (k s : ℕ) → drop k (zeros s) ≡ zeros (s - k)
drop_zeros zero s = let e : s ≡ s - 0 = omega arith in ap zeros e
drop_zeros (suc k) zero = let e : 0 ≡ 0 - suc k = omega arith in ap zeros e
drop_zeros (suc k) (suc s) = let e : s - k ≡ suc s - suc k = omega arith in drop_zeros k s ∙ ap zeros e

-- zeros, up to m and past it
zeros_apart : (k m s : ℕ) → k ≤ m → m ≤ s → zeros (s - k) ≡ zeros (m - k) ++ zeros (s - m)
zeros_apart k m s l h =
    let d : s - k ≡ (m - k) + (s - m) = omega arith in
    ap zeros d ∙ sym (replicate-append-replicate (m - k) (s - m) 0)

pub lay_side : (P x : List ℕ) (at m s : ℕ) → at ≡ length P → length x ≤ m → m ≤ s → over (P ++ zeros s) at x ≡ (P ++ (x ++ zeros (m - length x))) ++ zeros (s - m)
lay_side P x at m s e l h =
    let rest : drop (at + length x) (P ++ zeros s) ≡ zeros (m - length x) ++ zeros (s - m) = ap (λ (k : ℕ). drop (k + length x) (P ++ zeros s)) e ∙ drop-append-add P (zeros s) (length x) ∙ drop_zeros (length x) s ∙ zeros_apart (length x) m s l h in
    ap₂ (λ (a b : List ℕ). a ++ (x ++ b)) (take_at P (zeros s) at (sym e)) rest
    ∙ ap (λ (b : List ℕ). P ++ b) (sym (append_assoc x (zeros (m - length x)) (zeros (s - m))))
    ∙ sym (append_assoc P (x ++ zeros (m - length x)) (zeros (s - m)))

-- a side of up to m counts, with 0 after them
abbrev pub side : ℕ → List ℕ → List ℕ
side m x = x ++ zeros (m - length x)

side_long : (m : ℕ) (x : List ℕ) → length x ≤ m → length (side m x) ≡ m
side_long m x l = omega (arith, length-append x (zeros (m - length x)), length-replicate {A = ℕ} (m - length x) 0)

module _ (m long : ℕ) (T : List Row) (x y : List ℕ) (sides : All (Sides m) T) (p : length x ≤ m) (q : length y ≤ m) (room : length T * (2 * m) + 2 * m ≤ long) where
  abbrev one : Row
  one = record { head = side m x; tail = side m y }

  both_laid : laid (T ++ (one ∷ [])) ≡ (laid T ++ side m x) ++ side m y
  both_laid =
      laid_append T (one ∷ [])
      ∙ ap (λ (l : List ℕ). laid T ++ (side m x ++ l)) (append-nil (side m y))
      ∙ sym (append_assoc (laid T) (side m x) (side m y))

  pub filled_more : over (over (filled long T) (length T * (2 * m)) x) (length T * (2 * m) + m) y ≡ filled long (T ++ (one ∷ []))
  filled_more =
      let P : List ℕ = laid T in
      let s : ℕ = long - length P in
      let e : length T * (2 * m) ≡ length P = sym (laid_long m T sides) in
      let d : length T * (2 * m) + m ≡ length (P ++ side m x) = omega (arith, e, length-append P (side m x), side_long m x p) in
      let g : s - m - m ≡ long - length ((P ++ side m x) ++ side m y) = omega (arith, e, length-append P (side m x), side_long m x p, length-append (P ++ side m x) (side m y), side_long m y q) in
      ap (λ (l : List ℕ). over l (length T * (2 * m) + m) y) (lay_side P x (length T * (2 * m)) m s e p (omega (arith, e)))
      ∙ lay_side (P ++ side m x) y (length T * (2 * m) + m) m (s - m) d q (omega (arith, e))
      ∙ ap (λ (k : ℕ). ((P ++ side m x) ++ side m y) ++ zeros k) g
      ∙ ap (λ (l : List ℕ). l ++ zeros (long - length l)) (sym both_laid)
