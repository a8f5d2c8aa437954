-- The loads of a sheet, lent as the first part of the reader's buffer: their lines are those of the whole buffer. Assumes nothing.
use Rattle.std.specs.Prelude.{ℕ, zero, suc, ◌+◌, ◌*◌, ◌/◌, ◌<◌, ◌≤◌, ◌≡◌, List, ◌++◌, length, take, drop, ℤ, Ok, Err}
use Rattle.std.specs.Prelude as std
use Rattle.std.proofs.Common.{sym, ap, subst, ◌∙◌, length-take-le, length-drop, take-append-drop, arith}
use Rattle.std.proofs.lemmas.List.{take-append-le, drop-append-le}
use Rattle.std.proofs.Math.Nat.{mul-div_cancel}
use native.Mathlib.Nat.{mul-le-mul_right, suc-mul}
use Rattle.terms.specs.Flat.{table_of}
use Rattle.terms.specs.declared.Refused.{Refused}
use Rattle.report.specs.Report.{load_at, LoadLine, Lines, none, more, Written}
use Rattle.answers.specs.Answer.{Made, Show}

-- lines that are right one way are right another way
lines_too : {Line Other : ℕ → List ℕ → Type 0} (k : ℕ) → ((i : ℕ) (x : List ℕ) → i < k → Line i x → Other i x) → {x : List ℕ} → Lines Line k x → Lines Other k x
lines_too zero f none = none
lines_too (suc k) f (more {last = last} ps l) = more (lines_too k (λ i x h. f i x (omega arith)) ps) (f k last (omega arith) l)

module _ (n k : ℕ) (loads : List ℕ) (lies : k * n ≤ length loads) where
  long : length (take (k * n) loads) ≡ k * n
  long = length-take-le (k * n) loads lies

  -- so many loads are lent
  pub lent_count : 0 < n → length (take (k * n) loads) / n ≡ k
  lent_count some = ap (λ (l : ℕ). l / n) long ∙ mul-div_cancel k some

  -- and each is the buffer's
  lent_load : (i : ℕ) → i < k → load_at n (take (k * n) loads) i ≡ load_at n loads i
  lent_load i h =
      let front : List ℕ = take (k * n) loads in
      let back : List ℕ = drop (k * n) loads in
      let within : i * n + n ≤ k * n = omega (arith, mul-le-mul_right n h, suc-mul i n) in
      sym (take-append-le n (drop (i * n) front) back (omega (arith, length-drop (i * n) front, long, within)))
      ∙ ap (take n) (sym (drop-append-le (i * n) front back (omega (arith, long, within))) ∙ ap (drop (i * n)) (take-append-drop (k * n) loads))

  module _ (bound : ℕ) (sizes : List ℕ) (first : ℕ) where
    made_lent : (o : std.Result ℕ Refused × List ℕ) (bytes : List ℕ) → Made n bound sizes (take (k * n) loads) k first o bytes → Made n bound sizes loads k first o bytes
    made_lent (Ok rows, rules) bytes (rest, ps, e) =
        (rest, lines_too k (λ i x h. subst (λ (y : List ℕ). LoadLine bound sizes (table_of n rules rows) (first + i) y x) (lent_load i h)) ps, e)
    made_lent (Err refused, rules) bytes e = e

    -- the same of what is written for the sheet, and of the room that is lent for its table
    pub shown_lent : (Paper : Type 0) (Stored : List ℕ → Paper → Paper → Type 0) (costs : List ℤ) (swaps : List ℕ) {lent room : List ℕ} {before after : Paper} → 0 < n → lent ≡ room → Written Stored (Show n bound sizes costs swaps lent (take (k * n) loads) (length (take (k * n) loads) / n) first) before after → Written Stored (Show n bound sizes costs swaps room loads k first) before after
    shown_lent Paper Stored costs swaps {room = room} {before} {after} some e w =
        let p : Written Stored (Show n bound sizes costs swaps room (take (k * n) loads) k first) before after = rw (lent_count some, e) at w in
        record { bytes = p.bytes; right = (p.right.0, p.right.1, made_lent p.right.0 p.bytes p.right.2); stored = p.stored }
