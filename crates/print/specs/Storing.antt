-- Nothing stored changes nothing, and one run of bytes stored and then the next is both stored: on a vector, and in a lent slice.
use Rattle.std.specs.Prelude.{ℕ, suc, ◌+◌, ◌≡◌, List, [], ◌∷◌, ◌++◌, length}
use Rattle.std.proofs.Common.{refl, sym, ap, ◌∙◌, set, append-nil, append_assoc, length-append, add-zero, arith}
use Rattle.std.proofs.lemmas.List.Edits.{sets}
use lib.Seq.{length-sets}
use Rattle.print.specs.Lines.{Stored, StoredAt}

-- nothing appended leaves a vector as it was
pub stored_none : (o : List ℕ) → Stored [] o o
stored_none o = sym (append-nil o)

-- one run appended, and the next run after it, is both appended
pub stored_then : (a b o : List ℕ) {o' o'' : List ℕ} → Stored a o o' → Stored b o' o'' → Stored (a ++ b) o o''
stored_then a b o p q = q ∙ ap (λ (l : List ℕ). l ++ b) p ∙ append_assoc o a b

-- a vector is longer by what was appended
pub stored_long : (a o : List ℕ) {o' : List ℕ} → Stored a o o' → length o' ≡ length o + length a
stored_long a o p = ap length p ∙ length-append o a

-- in a slice the next run, behind the first, is set as one run with it
sets_append : (o : List ℕ) (at : ℕ) (a b : List ℕ) → sets (sets o at a) (at + length a) b ≡ sets o at (a ++ b)
sets_append o at [] b = ap (λ (k : ℕ). sets o k b) (add-zero at)
sets_append o at (x ∷ a) b =
    let e : at + length (x ∷ a) ≡ suc at + length a = omega arith in
    ap (λ (k : ℕ). sets (sets (set o at x) (suc at) a) k b) e ∙ sets_append (set o at x) (suc at) a b

-- nothing stored leaves a slice as it was
pub at_none : (o : List ℕ) (at : ℕ) → StoredAt [] at o at o
at_none o at = record { next = sym (add-zero at); holds = refl }

-- one run stored in a slice, and the next run behind it, is both stored
pub at_then : {a b o o' o'' : List ℕ} {at r s : ℕ} → StoredAt a at o r o' → StoredAt b r o' s o'' → StoredAt (a ++ b) at o s o''
at_then {a} {b} {o} {at = at} {r = r} p q = record {
  next = omega (arith, p.next, q.next, length-append a b);
  holds =
      q.holds
      ∙ ap (λ (l : List ℕ). sets l r b) p.holds
      ∙ ap (λ (k : ℕ). sets (sets o at a) k b) p.next
      ∙ sets_append o at a b;
}

-- storing keeps the slice's length
pub at_long : {a o o' : List ℕ} {at r : ℕ} → StoredAt a at o r o' → length o' ≡ length o
at_long {a} {o} {at = at} p = ap length p.holds ∙ length-sets o at a
