-- What only compares loads of one grade does not tell apart two orders that agree at equal grade. That the order by weight is
-- such an order, proofs/Weights.antt shows.
--     cost_of_weights    the cost by natural numbers is the grade by them
--     before_same        costs that differ by the same, order the same
--     finished_same      a table finished by one of two orders that agree is finished by the other
-- Assumes nothing.
use Rattle.std.specs.Prelude.{ℕ, ◌+◌, ◌≡◌, refl, List, [], ◌∷◌, map, length, ℤ, pos, ◌+ℤ◌}
use Rattle.std.proofs.Common.{sym, ap, ap₂, ◌∙◌, inl, inr, arith, mul_comm, length-set}
use Rattle.terms.specs.Load.{grade}
use Rattle.terms.specs.Order.{cost, Before}
use Rattle.terms.specs.Table.{FirstReached, Head, Row, Finished}
use Rattle.laws.specs.Signed.{up, down, same, lt_reads, reads_lt}
use Rattle.bridge.specs.Regular.{Regular}

pub cost_of_weights : (ws x : List ℕ) → cost (map pos ws) x ≡ pos (grade ws x)
cost_of_weights [] x = refl
cost_of_weights (w ∷ ws) [] = refl
cost_of_weights (w ∷ ws) (x ∷ xs) = ap₂ (λ (a b : ℤ). a +ℤ b) (ap pos (mul_comm x w)) (cost_of_weights ws xs)

-- ---- two orders that agree

-- the one goes before where the other does, of loads of n counts and equal grade
abbrev pub Agree : ℕ → List ℕ → List ℤ → List ℤ → Type 0
Agree n sizes cs ds = (x y : List ℕ) → length x ≡ n → length y ≡ n → grade sizes x ≡ grade sizes y → Before cs x y → Before ds x y

-- costs that differ by the same, order the same
pub before_same : (cs ds : List ℤ) (x y : List ℕ) → up (cost cs x) + down (cost cs y) + (up (cost ds y) + down (cost ds x)) ≡ up (cost cs y) + down (cost cs x) + (up (cost ds x) + down (cost ds y)) → Before cs x y → Before ds x y
before_same cs ds x y e (inl l) =
    inl (reads_lt (cost ds x) (cost ds y) (omega (arith, lt_reads (cost cs x) (cost cs y) l)))
before_same cs ds x y e (inr p) =
    inr (same (cost ds x) (cost ds y) (omega (arith, ap up p.0, ap down p.0)), p.1)

-- ---- what is finished by the one is finished by the other

module _ {n : ℕ} {sizes : List ℕ} {reach : List ℕ → List ℕ → Type 0} (reg : Regular n sizes reach) where
  first_same : (cs ds : List ℤ) → Agree n sizes ds cs → {x y : List ℕ} → length x ≡ n → FirstReached cs reach x y → FirstReached ds reach x y
  first_same cs ds back {x} {y} e r = record {
    reached = r.reached;
    none_before = λ z q b. r.none_before z q (back z y (reg.keeps e q) (reg.keeps e r.reached) (sym (reg.weighs e q) ∙ reg.weighs e r.reached) b);
  }

  module _ (bound : ℕ) where
    head_same : (cs ds : List ℤ) → Agree n sizes cs ds → Agree n sizes ds cs → {h : List ℕ} → Head n bound sizes cs reach h → Head n bound sizes ds reach h
    head_same cs ds on back {h} w = record {
      counts = w.counts;
      bounded = w.bounded;
      unsettled = λ s. w.unsettled (first_same ds cs on w.counts s);
      parts = λ i l. first_same cs ds back (length-set h i _ ∙ w.counts) (w.parts i l);
    }

    pub finished_same : (cs ds : List ℤ) → Agree n sizes cs ds → Agree n sizes ds cs → {T : List Row} → Finished n bound sizes cs reach T → Finished n bound sizes ds reach T
    finished_same cs ds on back f = record {
      heads = λ a m. head_same cs ds on back (f.heads a m);
      tails = λ a m. first_same cs ds back (f.heads a m).counts (f.tails a m);
      each = λ h w. f.each h (head_same ds cs back on w);
      order = f.order;
    }
