-- A lent sheet read swap by swap, each made one of 12 kinds with its stamp.
--     one_read    a swap more
--     all_read    where less than a swap is left, all are made
-- Assumes nothing.
use Rattle.std.specs.Prelude.{ℕ, ◌+◌, ◌-◌, ◌*◌, ◌≤◌, ◌<◌, ◌≡◌, List, [], ◌∷◌, ◌++◌, length, take, drop}
use Rattle.std.proofs.Common.{sym, ap, ap₂, ◌∙◌, arith, length-append, length-drop, take_all, add-mul}
use Rattle.std.proofs.lemmas.List.{take-append-le, drop-append-le, drop-drop, drop_at}
use Rattle.std.proofs.lemmas.Nat.{le-div, div_below}
use Rattle.terms.specs.Load.{grade}
use Rattle.terms.specs.Flat.{left_at, right_at, numbered, rows_lent}
use Rattle.laws.specs.Numbered.{numbered_more}
use Rattle.growth.specs.State.{stamp}
use Rattle.padding.specs.Widen.{widen}
use Rattle.grades.specs.declared.Stamped.{Stamped as Held}
use Rattle.complete.specs.Grown.{stamped_of, stamped_at}

-- a load of n counts that was widened by its own length
pub widened : (n : ℕ) {x y z : List ℕ} → x ≡ y → length x ≡ n → z ≡ widen (length x) x → z ≡ widen n y
widened n {x} p e q = q ∙ ap (λ (i : ℕ). widen i x) e ∙ ap (widen n) p

pub stamped_same : (n bound : ℕ) (sizes x y : List ℕ) {z w : List ℕ} {s : ℕ} → z ≡ widen n x → w ≡ widen n y → s ≡ stamp bound (grade sizes z) → ◌≡◌ {A = Held} (record { left = z; right = w; stamp = s }) (stamped_of n bound sizes x y)
stamped_same n bound sizes x y p q r = λ i. record { left = p i; right = q i; stamp = (r ∙ ap (λ (l : List ℕ). stamp bound (grade sizes l)) p) i }

-- the swaps before what is left are made
pub record Read (n bound : ℕ) (sizes swaps rest : List ℕ) (made : List Held) : Type 0 where
  pub left : rest ≡ drop (length made * (2 * n)) swaps
  pub within : length made * (2 * n) ≤ length swaps
  pub are : made ≡ numbered (stamped_at n bound sizes swaps) 0 (length made)

module _ {n bound : ℕ} {sizes swaps rest : List ℕ} {made : List Held} (some : 1 ≤ n) (read : Read n bound sizes swaps rest made) where
  abbrev k : ℕ
  k = length made

  next_at : (k + 1) * (2 * n) ≡ k * (2 * n) + 2 * n
  next_at = omega (arith, add-mul k 1 (2 * n))

  left_long : length rest ≡ length swaps - k * (2 * n)
  left_long = ap length read.left ∙ length-drop (k * (2 * n)) swaps

  -- where less than a swap is left, all are made
  pub all_read : length rest < 2 * n → made ≡ numbered (stamped_at n bound sizes swaps) 0 (rows_lent n swaps)
  all_read l =
      let below = div_below (length swaps) (2 * n) (k + 1) (omega arith) (omega (arith, left_long, next_at, read.within)) in
      let above = le-div k (length swaps) (2 * n) (omega arith) read.within in
      let e : k ≡ rows_lent n swaps = omega (arith, below, above) in
      read.are ∙ ap (numbered (stamped_at n bound sizes swaps) 0) e

  module _ (chunk after : List ℕ) (e : rest ≡ chunk ++ after) (long : length chunk ≡ 2 * n) where
    fits : (k + 1) * (2 * n) ≤ length swaps
    fits = omega (arith, left_long, next_at, ap length e, length-append chunk after, read.within)

    first : take n chunk ≡ left_at n swaps k
    first = sym (take-append-le n chunk after (omega arith)) ∙ ap (take n) (sym e ∙ read.left)

    second : drop n chunk ≡ right_at n swaps k
    second =
        sym (take_all n (drop n chunk) (omega (arith, length-drop n chunk)))
        ∙ sym (take-append-le n (drop n chunk) after (omega (arith, length-drop n chunk)))
        ∙ ap (take n) (sym (drop-append-le n chunk after (omega arith)) ∙ ap (drop n) (sym e ∙ read.left) ∙ drop-drop n (k * (2 * n)) swaps)

    pub one_read : Read n bound sizes swaps after (made ++ (stamped_of n bound sizes (take n chunk) (drop n chunk) ∷ []))
    one_read =
        let more : length (made ++ (stamped_of n bound sizes (take n chunk) (drop n chunk) ∷ [])) ≡ k + 1 = length-append made (stamped_of n bound sizes (take n chunk) (drop n chunk) ∷ []) in
        let there : after ≡ drop ((k + 1) * (2 * n)) swaps =
        sym (drop_at chunk after (2 * n) long) ∙ ap (drop (2 * n)) (sym e ∙ read.left) ∙ drop-drop (2 * n) (k * (2 * n)) swaps ∙ ap (λ (i : ℕ). drop i swaps) (sym next_at) in
        record {
          left = there ∙ ap (λ (i : ℕ). drop (i * (2 * n)) swaps) (sym more);
          within = rw more fits;
          are =
              ap₂ (λ (l : List Held) (a : Held). l ++ (a ∷ [])) read.are (ap₂ (stamped_of n bound sizes) first second)
              ∙ sym (numbered_more (stamped_at n bound sizes swaps) k)
              ∙ ap (numbered (stamped_at n bound sizes swaps) 0) (sym more);
        }
