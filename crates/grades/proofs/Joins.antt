-- What came of joining two loads, as the working table then stands.
-- Assumes nothing.
use Rattle.std.specs.Prelude.{ℕ, ◌≤◌, ◌<◌, ◌≡◌, refl, List, [], ◌∷◌, ◌++◌, length, get_or}
use Rattle.std.proofs.Common.{sym, subst, ◌∙◌, ap, arith, length-append}
use Rattle.std.proofs.lemmas.List.{map-append, length-map}
use Rattle.terms.specs.Swaps.{exchange}
use Rattle.terms.specs.Table.{Row}
use Rattle.laws.specs.Load.{join, UpTo, up_to_more}
use Rattle.rack.specs.Joined.{Joined}
use Rattle.rack.specs.Racked.{Loaded}
use Rattle.rack.specs.Rows.{as_row, as_rows, head_at, tail_at}
use Rattle.rack.specs.declared.Row.{Row as Held}
use Rattle.rack.specs.declared.Meeting.{Meeting}
use Rattle.rack.specs.declared.Meeting.TheVariants.{Met, First, Second}
use Rattle.rack.proofs.Held.{held_at}
use Rattle.rack.proofs.Loaded.{loaded_counts}
use Rattle.growth.specs.Meets.{Meets, Meets.met, Meets.new_first, Meets.new_second}
use Rattle.growth.specs.State.{JoinedIn, made}

module _ {weights : List ℕ} (T : List Held) {x₀ y₀ x y : List ℕ} (m : Meeting) (j : Joined weights (as_rows T) x₀ y₀ x y m) where
  pub in_met : m ≡ Met → JoinedIn weights (as_rows T) x₀ y₀ (as_rows T)
  in_met e =
      let k : Joined weights (as_rows T) x₀ y₀ x y Met = subst (Joined weights (as_rows T) x₀ y₀ x y) e j in
      record { more = omega arith; one = omega arith; meets = met x k.left (rw (← k.ends) at k.right) refl }

  -- a row more at the end
  one_more : (a : Held) → Meets weights (as_rows T) x₀ y₀ (as_rows T ++ as_row a ∷ []) → JoinedIn weights (as_rows T) x₀ y₀ (as_rows (T ++ a ∷ []))
  one_more a n = rw (map-append as_row T (a ∷ [])) record {
    more = omega (arith, length-append (as_rows T) (as_row a ∷ []));
    one = omega (arith, length-append (as_rows T) (as_row a ∷ []));
    meets = n;
  }

  pub in_first : m ≡ First → JoinedIn weights (as_rows T) x₀ y₀ (as_rows (T ++ record { head = x; tail = y } ∷ []))
  in_first e =
      let k : Joined weights (as_rows T) x₀ y₀ x y First = subst (Joined weights (as_rows T) x₀ y₀ x y) e j in
      one_more (record { head = x; tail = y }) (new_first x y k.left k.right k.ends.0 k.ends.1 refl)

  pub in_second : m ≡ Second → JoinedIn weights (as_rows T) x₀ y₀ (as_rows (T ++ record { head = y; tail = x } ∷ []))
  in_second e =
      let k : Joined weights (as_rows T) x₀ y₀ x y Second = subst (Joined weights (as_rows T) x₀ y₀ x y) e j in
      one_more (record { head = y; tail = x }) (new_second x y k.left k.right k.ends.0 k.ends.1 refl)

-- ---- how many rows there are, beside the room

module _ (T : List Held) {n room : ℕ} (e : n ≡ length T) where
  pub rows_in : n ≤ room → length (as_rows T) ≤ room
  rows_in l = omega (arith, length-map T as_row)

  pub rows_over : room < n → room < length (as_rows T)
  rows_over l = omega (arith, length-map T as_row)

-- ---- what two rows make of their least common load, from their sides

module _ (T : List Held) (p j : ℕ) (d : Held) (l : p < length T) (m : j < length T) where
  pub made_as : exchange (get_or T p d).head (get_or T p d).tail (join (get_or T p d).head (get_or T j d).head) ≡ made (as_rows T) p j
  made_as = ap (λ (a : Row). exchange a.head a.tail (join a.head (get_or T j d).head)) (sym (held_at T p d l)) ∙ ap (λ (a : Row). exchange (head_at (as_rows T) p) (tail_at (as_rows T) p) (join (head_at (as_rows T) p) a.head)) (sym (held_at T j d m))

  pub made_fits : {weights : List ℕ} {U : List Row} → Loaded weights U (made (as_rows T) p j) → UpTo 65535 (exchange (get_or T p d).head (get_or T p d).tail (join (get_or T p d).head (get_or T j d).head))
  made_fits l = subst (UpTo 65535) (sym made_as) (up_to_more 1000 65535 (made (as_rows T) p j) (omega arith) (loaded_counts l))
