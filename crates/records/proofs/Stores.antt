-- Rows stored in a table, as the loop goes. Assumes nothing.
use Rattle.std.specs.Prelude.{ℕ, ◌+◌, ◌≤◌, ◌<◌, ◌≡◌, refl, List, Bool, true, false, cond, Option, Some, None, length, get_or, take, drop, set, map}
use Rattle.std.proofs.Common.{ap, ◌∙◌, arith, add-one, drop-cons, take_all, drop_of_length-le, take-suc-set, take-suc}
use Rattle.std.proofs.lemmas.List.{map-append}
use Rattle.records.specs.Lines.{all, within}
use Rattle.records.specs.Steps.{ranged, Stored}

module _ {A : Type 0} (reads : ℕ → A) (least most : ℕ) (row : List ℕ) (i : ℕ) where
  abbrev Value : Option A
  Value = ranged reads least most (get_or row i 0)

  no_value : (t : Bool) → None ≡ cond t (Some (reads (get_or row i 0))) None → t ≡ false
  no_value true e = cc
  no_value false e = refl

  some_value : (t : Bool) (x : A) → Some x ≡ cond t (Some (reads (get_or row i 0))) None → (t ≡ true) × (x ≡ reads (get_or row i 0))
  some_value true x e = (refl, cc)
  some_value false x e = cc

  pub stops : i < length row → None ≡ Value → false ≡ all (within least most) (drop i row)
  unfolding all
  stops h e = rw (drop-cons row i 0 h, no_value (within least most (get_or row i 0)) e)

  pub goes : (x : A) (table : List A) → i < length row → i < length table → Some x ≡ Value → take i table ≡ map reads (take i row)
      → (take (i + 1) (set table i x) ≡ map reads (take (i + 1) row)) × (all (within least most) (drop (i + 1) row) ≡ all (within least most) (drop i row))
  unfolding all
  goes x table h k e p =
      let v = some_value (within least most (get_or row i 0)) x e in (
        rw (add-one i, take-suc-set table i x k, take-suc row i 0 h, map-append, p, v.1),
        rw (add-one i, drop-cons row i 0 h, v.0),
      )

  pub ends : (table : List A) → length row ≤ i → i ≤ length row → take i table ≡ map reads (take i row) → all (within least most) (drop i row) ≡ all (within least most) row → Stored reads least most row true table
  unfolding all
  ends table h k p q =
      let n : i ≡ length row = omega arith in
      record {
        says = rw (drop_of_length-le row h) at q;
        put = λ e. rw (← n) (p ∙ ap (map reads) (take_all i row h));
      }
