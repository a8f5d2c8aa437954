-- Settling by leaps: where one row is the first that fits a load `y` which holds every load on the way, the row may be
-- applied so many times at once.
use Rattle.std.specs.Prelude.{ℕ, zero, suc, ◌<◌, ◌≡◌, refl, List}
use Rattle.std.proofs.Common.{ap, ◌∙◌, arith}
use Rattle.theory.specs.Kit.{Kit, Fits, fits_trans}
use Rattle.theory.specs.Rows.{Row, AllProper, First, hit, miss, first_mem, step_rank}
use Rattle.theory.specs.Settle.{nf, nf_first}

module _ (K : Kit) where
  infixl 70 ◌⊕◌
  open K use {L, ◌⊕◌, rank}

  -- the first row that fits in `y` is the first in any lesser load that it fits in
  pub first_down : {x y : L} {r : Row L} {T : List (Row L)} → Fits K x y → First K y r T → Fits K r.head x → First K x r T
  first_down f (hit e fy) fx = hit e fx
  first_down {x = x} {y = y} f (miss {b = b} n s) fx = miss (λ h. n (fits_trans K b.head x y h f)) (first_down f s fx)

  -- THE LEAP. `way c` is the load after c rounds, `rest c` what the head leaves of it.
  module _ (T : List (Row L)) (ok : AllProper K T) (r : Row L) (y : L) (top : First K y r T) where
    pub record Round (x c x' : L) : Type 0 where
      pub before_it : r.head ⊕ c ≡ x
      pub after_it : r.tail ⊕ c ≡ x'
      pub within : Fits K x y

    pub round_nf : {x c x' : L} → Round x c x' → nf K T x ≡ nf K T x'
    round_nf {x} {c} o = nf_first K T ok (first_down o.within top (c, o.before_it)) c o.before_it ∙ ap (nf K T) o.after_it

    pub leap : (m : ℕ) (way rest : ℕ → L) → ((c : ℕ) → c < m → Round (way c) (rest c) (way (suc c))) → nf K T (way 0) ≡ nf K T (way m)
    leap zero way rest h = refl
    leap (suc m) way rest h = round_nf (h 0 (omega arith)) ∙ leap m (λ c. way (suc c)) (λ c. rest (suc c)) (λ c l. h (suc c) (omega arith))

    -- and the rank falls
    pub leap_rank : (m : ℕ) (way rest : ℕ → L) → ((c : ℕ) → c < m → Round (way c) (rest c) (way (suc c))) → 0 < m → rank (way m) < rank (way 0)
    leap_rank zero way rest h z = absurd (omega arith)
    leap_rank (suc zero) way rest h z = let o : Round (way 0) (rest 0) (way 1) = h 0 (omega arith) in omega (arith, step_rank K (ok r (first_mem K top)) (rest 0) o.before_it, ap rank o.after_it)
    leap_rank (suc (suc m)) way rest h z =
        let o : Round (way 0) (rest 0) (way 1) = h 0 (omega arith) in
        omega (arith, step_rank K (ok r (first_mem K top)) (rest 0) o.before_it, ap rank o.after_it, leap_rank (suc m) (λ c. way (suc c)) (λ c. rest (suc c)) (λ c l. h (suc c) (omega arith)) (omega arith))
