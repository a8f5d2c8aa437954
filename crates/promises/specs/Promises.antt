-- The promises of the calls, over their contracts. The table is one that complete accepted, as it left it, with the same kit, bound and number of rows.
--     finished            complete: the table is the finished table
--     settled_first       settle is done, and leaves the first load in the cost order of all that the sheet's own swaps reach
--     any_sequence        applying rows while any fits, in whatever sequence, ends at that load
--     joined              settling each, joining and settling gives what joining and settling gives
--     one_..              each call: two outcomes that its contract allows are the same
-- Assumes nothing.
use Rattle.std.specs.Prelude.{ℕ, ◌+◌, ◌≤◌, ◌≡◌, List, length, ℤ, Result, Ok}
use Rattle.std.proofs.Common.{sym, ◌∙◌, arith}
use Rattle.std.specs.Borrow.{Bor}
use Rattle.terms.specs.declared.Refused.{Refused}
use Rattle.terms.specs.Load.{plus, grade}
use Rattle.terms.specs.Swaps.{Reaches}
use Rattle.terms.specs.Table.{FirstReached, Finished}
use Rattle.terms.specs.Settling.{NoneFits, Settles, Leads}
use Rattle.terms.specs.Flat.{sheet_of, table_of}
use Rattle.laws.specs.Outcome.{taken}
use Rattle.laws.specs.Load.{grade_plus, length_both}
use Rattle.bridge.specs.Theorems as theorems
use Rattle.compare.specs.Earlier.{Fine, Earlier}
use Rattle.compare.specs.One.{earlier_one, refused_one}
use Rattle.settle.specs.Call.{tests, Accepted, Settling}
use Rattle.settle.specs.One.{settling_one}
use Rattle.complete.specs.Call.{Completing}
use Rattle.complete.specs.Passed.{fine_kit}
use Rattle.complete.specs.One.{completing_one}
use Rattle.promises.specs.Completed.{lent_fit, reach_regular, table_finished, settle_holds}

module _ {n bound : ℕ} {sizes : List ℕ} {costs : List ℤ} {swaps rules : List ℕ} {r : ℕ} {table : List ℕ} (c : Completing n bound sizes costs swaps rules (Ok r, table)) where
  -- what the sheet's own swaps reach
  abbrev reach : List ℕ → List ℕ → Type 0
  reach = Reaches (sheet_of n swaps)

  -- the table is the finished table
  pub finished : Finished n bound sizes costs reach (table_of n table r)
  finished = table_finished c

  module _ {load : List ℕ} (long : length load ≡ n) (small : grade sizes load ≤ bound) {o : Result (Unit {0}) Refused × List ℕ} (s : Settling n bound sizes costs table r load o) where
    accepted : Accepted n table r load o
    accepted = taken (Accepted n table r load) (tests n bound sizes costs table r load) o (settle_holds c load long small) s

    pub settled_first : (o.0 ≡ Ok tt) × FirstReached costs reach load o.1
    settled_first = (accepted.0, theorems.settles_first costs (fine_kit (lent_fit c).kit) (reach_regular c) finished long small accepted.1)

    pub any_sequence : {y : List ℕ} → Leads (table_of n table r) load y → NoneFits (table_of n table r) y → y ≡ o.1
    any_sequence l none = theorems.settling_one (theorems.any_sequence costs (fine_kit (lent_fit c).kit) (reach_regular c) finished long small l none) accepted.1

  -- joining: x and y are settled to o and p, their sum to q, and the sum of what was left to t.
  pub joined :
      {x y : List ℕ} → length x ≡ n → length y ≡ n → grade sizes (plus x y) ≤ bound → {o p q t : Result (Unit {0}) Refused × List ℕ}
      → Settling n bound sizes costs table r x o → Settling n bound sizes costs table r y p → Settling n bound sizes costs table r (plus x y) q → Settling n bound sizes costs table r (plus o.1 p.1) t
      → t.1 ≡ q.1
  joined {x} {y} ex ey small {o} {p} {q} {t} so sp sq st =
      theorems.settling_one (taken_of (length_both ◌+◌ o.1 p.1 (lo ∙ sym lp) ∙ lo) small' st) together
    where
      taken_of : {load : List ℕ} → length load ≡ n → grade sizes load ≤ bound → {u : Result (Unit {0}) Refused × List ℕ} → Settling n bound sizes costs table r load u → Settles (table_of n table r) load u.1
      taken_of long small s = (accepted long small s).1

      gx : grade sizes x ≤ bound
      gx = omega (arith, grade_plus sizes x y (ex ∙ sym ey))

      gy : grade sizes y ≤ bound
      gy = omega (arith, grade_plus sizes x y (ex ∙ sym ey))

      fx : FirstReached costs reach x o.1
      fx = (settled_first ex gx so).1

      fy : FirstReached costs reach y p.1
      fy = (settled_first ey gy sp).1

      lo : length o.1 ≡ n
      lo = (reach_regular c).keeps ex fx.reached

      lp : length p.1 ≡ n
      lp = (reach_regular c).keeps ey fy.reached

      small' : grade sizes (plus o.1 p.1) ≤ bound
      small' = omega (arith, grade_plus sizes x y (ex ∙ sym ey), grade_plus sizes o.1 p.1 (lo ∙ sym lp), (reach_regular c).weighs ex fx.reached, (reach_regular c).weighs ey fy.reached)

      together : Settles (table_of n table r) (plus o.1 p.1) q.1
      together =
          theorems.settled_joined costs (fine_kit (lent_fit c).kit) (reach_regular c) finished ex ey small (taken_of ex gx so) (taken_of ey gy sp)
          (taken_of (length_both ◌+◌ x y (ex ∙ sym ey) ∙ ex) small sq)

-- ---- determined

pub one_completion : (n bound : ℕ) (sizes : List ℕ) (costs : List ℤ) (swaps rules : List ℕ) (o p : Result ℕ Refused × List ℕ) → Completing n bound sizes costs swaps rules o → Completing n bound sizes costs swaps rules p → o ≡ p
one_completion = completing_one

pub one_settling : (n bound : ℕ) (sizes : List ℕ) (costs : List ℤ) (rules : List ℕ) (rows : ℕ) (load : List ℕ) (o p : Result (Unit {0}) Refused × List ℕ) → Settling n bound sizes costs rules rows load o → Settling n bound sizes costs rules rows load p → o ≡ p
one_settling = settling_one

-- of earlier of two: the same reference; refused, a part that starts at the same place and holds nothing
pub one_earlier : (n : ℕ) (costs : List ℤ) (x y r s : Bor (List ℕ)) → Fine n costs x.now y.now → Earlier n costs x y r → Earlier n costs x y s → r ≡ s
one_earlier = earlier_one

pub one_refused : (n : ℕ) (costs : List ℤ) (x y r s : Bor (List ℕ)) → (Fine n costs x.now y.now → ⊥) → Earlier n costs x y r → Earlier n costs x y s → (r.ref_ptr ≡ s.ref_ptr) × (r.now ≡ s.now)
one_refused = refused_one
