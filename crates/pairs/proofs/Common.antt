-- What the loops over twelve counts keep, and the heads of rows, wherever they lie.
-- Assumes nothing.
use Rattle.std.specs.Prelude.{ℕ, ◌+◌, ◌*◌, ◌≤◌, ◌<◌, ◌≡◌, Bool, true, List, length, get_or, take}
use Rattle.std.proofs.Common.{ap, ap₂, sym, subst, refl, ◌∙◌, arith, length-take, map}
use Rattle.std.proofs.lemmas.List.{get_or-take, get_or-map, get_or_default, length-map}
use Rattle.terms.specs.Load.{Fits, grade}
use Rattle.laws.specs.Load.{UpTo, join}
use Rattle.rack.specs.Rows.{as_row, as_rows, blank, head_at}
use Rattle.rack.specs.declared.Row.{Row as Held}
use Rattle.terms.specs.Table.{Row}
use Rattle.pairs.specs.Pairs.{common}

-- ---- the loop that sums the grade: what is left of the three lists

pub record Summing (ss xs ys : List ℕ) (whole sum : ℕ) : Type 0 where
  pub left : length xs ≡ length ss
  pub right : length ys ≡ length ss
  pub small : UpTo 1000 ss × UpTo 1000 xs × UpTo 1000 ys
  pub rest : sum + grade ss (join xs ys) ≡ whole
  pub room : sum + length ss * 1000000 ≤ 12000000

-- ---- the loop that tests each count

pub record Covering (ps xs ys p j : List ℕ) (ok : Bool) : Type 0 where
  pub left : length xs ≡ length ps
  pub right : length ys ≡ length ps
  pub onward : ok ≡ true → Fits ps (join xs ys) → Fits p j
  pub back : Fits p j → (ok ≡ true) × Fits ps (join xs ys)

-- ---- the rows of a table, each read as a row, the last of the first n + 1 and those below it

module _ {A : Type 0} (read : A → Row) (T : List A) (n : ℕ) where
  last_read : (last : A) → last ≡ get_or T n last → n + 1 ≤ length (map read T) → (read last).head ≡ head_at (map read T) n
  last_read last is l =
      ap (λ (a : A). (read a).head) is
      ∙ ap (λ (a : Row). a.head) (sym (get_or-map read T n last blank (omega (arith, l, length-map T read))))

  module _ (l : n + 1 ≤ length (map read T)) (m i : ℕ) (low : A) (is : low ≡ get_or (take m T) i low) (f : m ≤ n) (h : i < length (take m T)) where
    low_read : (read low).head ≡ head_at (map read T) i
    low_read =
        ap (λ (a : A). (read a).head) (is ∙ get_or-take m T i low (omega (arith, h, length-take m T)))
        ∙ ap (λ (a : Row). a.head) (sym (get_or-map read T i low blank (omega (arith, h, length-take m T))))

    pub common_read : (last : A) → last ≡ get_or T n last → join (read low).head (read last).head ≡ common (map read T) i n
    common_read last e = ap₂ join low_read (last_read last e l)

-- what is read of them is small
module _ {A : Type 0} (read : A → Row) (T : List A) (n : ℕ) (l : n + 1 ≤ length (map read T)) (small : (r : ℕ) → r < n + 1 → UpTo 1000 (head_at (map read T) r)) where
  pub last_small_read : (a : A) (x : List ℕ) → a ≡ get_or T n a → x ≡ (read a).head → UpTo 1000 x
  last_small_read a x is e = subst (UpTo 1000) (sym (e ∙ last_read read T n a is l)) (small n (omega arith))

  pub low_small_read : (m i : ℕ) → m ≤ n → i < length (take m T) → (a : A) (x : List ℕ) → a ≡ get_or (take m T) i a → x ≡ (read a).head → UpTo 1000 x
  low_small_read m i f h a x is e =
      subst (UpTo 1000) (sym (e ∙ low_read read T n l m i a is f h)) (small i (omega (arith, f, h, length-take m T)))

-- ---- the same of the rows that the program holds, by any default

module _ (T : List Held) (n : ℕ) (d : Held) (l : n + 1 ≤ length (as_rows T)) where
  last_is : get_or T n d ≡ get_or T n (get_or T n d)
  last_is = get_or_default T n d (get_or T n d) (omega (arith, l, length-map T as_row))

  low_is : (m i : ℕ) → i < length (take m T) → get_or (take m T) i d ≡ get_or (take m T) i (get_or (take m T) i d)
  low_is m i h = get_or_default (take m T) i d (get_or (take m T) i d) h

  pub common_held : (m i : ℕ) → m ≤ n → i < length (take m T) → join (get_or (take m T) i d).head (get_or T n d).head ≡ common (as_rows T) i n
  common_held m i f h = common_read as_row T n l m i (get_or (take m T) i d) (low_is m i h) f h (get_or T n d) last_is

  module _ (small : (r : ℕ) → r < n + 1 → UpTo 1000 (head_at (as_rows T) r)) where
    pub last_small : UpTo 1000 (get_or T n d).head
    last_small = last_small_read as_row T n l small (get_or T n d) (get_or T n d).head last_is refl

    pub low_small : (m i : ℕ) → m ≤ n → i < length (take m T) → UpTo 1000 (get_or (take m T) i d).head
    low_small m i f h = low_small_read as_row T n l small m i f h (get_or (take m T) i d) (get_or (take m T) i d).head (low_is m i h) refl
