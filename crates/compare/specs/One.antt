-- The contract of earlier of two allows one answer.
--     earlier_one     of input that is taken, one reference is handed back
--     refused_one     of input that is refused, one part: where it starts, and that it is empty
--     earlier_long    no accepted call gives the empty part
-- Assumes nothing.
use Rattle.std.specs.Prelude.{ℕ, ◌≡◌, List, length, ℤ}
use Rattle.std.proofs.Common.{sym, ap, ◌∙◌}
use Rattle.std.specs.Borrow.{Bor}
use Rattle.terms.specs.Order.{Before}
use Rattle.laws.specs.Order.{before?}
use Rattle.compare.specs.Earlier.{Fine, Earlier}

-- of input that is taken, one reference is handed back
pub earlier_one : (n : ℕ) (costs : List ℤ) (x y r s : Bor (List ℕ)) → Fine n costs x.now y.now → Earlier n costs x y r → Earlier n costs x y s → r ≡ s
earlier_one n costs x y r s p e f = go (before? costs n y.now x.now p.y_long p.x_long)
  where
    go : Dec (Before costs y.now x.now) → r ≡ s
    go (yes b) = e.second p b ∙ sym (f.second p b)
    go (no none) = e.first p none ∙ sym (f.first p none)

-- of input that is refused, one part: where it starts, and that it is empty, is all that it is
pub refused_one : (n : ℕ) (costs : List ℤ) (x y r s : Bor (List ℕ)) → (Fine n costs x.now y.now → ⊥) → Earlier n costs x y r → Earlier n costs x y s → (r.ref_ptr ≡ s.ref_ptr) × (r.now ≡ s.now)
refused_one n costs x y r s p e f =
    ((e.refused p).starts ∙ sym (f.refused p).starts, (e.refused p).empty ∙ sym (f.refused p).empty)

-- of input that is taken, what is handed back has n counts: never the empty part
pub earlier_long : (n : ℕ) (costs : List ℤ) (x y r : Bor (List ℕ)) → Fine n costs x.now y.now → Earlier n costs x y r → length r.now ≡ n
earlier_long n costs x y r p e = go (before? costs n y.now x.now p.y_long p.x_long)
  where
    go : Dec (Before costs y.now x.now) → length r.now ≡ n
    go (yes b) = ap (λ (z : Bor (List ℕ)). length z.now) (e.second p b) ∙ p.y_long
    go (no none) = ap (λ (z : Bor (List ℕ)). length z.now) (e.first p none) ∙ p.x_long
