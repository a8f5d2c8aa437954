-- Kind k of the 12: its size and its weight.
-- Assumes nothing.
use Rattle.std.specs.Prelude.{ℕ, zero, suc, ◌+◌, ◌-◌, ◌≤◌, ◌<◌, ◌≡◌, refl, List, [], ◌∷◌, ◌++◌, length, get_or, replicate, ℤ, pos}
use Rattle.std.proofs.Common.{sym, ap, ap₂, ◌∙◌, arith, length-append, to_z, of_z}
use Rattle.std.proofs.lemmas.List.{length-replicate, get_or-replicate}
use Rattle.std.proofs.Math.ListN.{get_or-append}
use Rattle.std.specs.Int.{w32}
use Rattle.std.proofs.lemmas.Int.{to_z-of_z}
use Rattle.terms.specs.Limits.{All, CostFine, most_kinds}
use Rattle.laws.specs.Signed.{mag_le, nat_abs_reads}
use Rattle.padding.specs.Widen.{FineKit, widen_sizes, widen_costs, weight, weigh, weights}

pub all_at : {A : Type 0} (P : A → Type 0) (l : List A) (i : ℕ) (d : A) → i < length l → All P l → P (get_or l i d)
all_at P [] i d h w = absurd (omega arith)
all_at P (x ∷ l) zero d h w = w.0
all_at P (x ∷ l) (suc i) d h w = all_at P l i d (omega arith) w.1

past_at : {A : Type 0} (l : List A) (j k : ℕ) (a d : A) → length l ≤ k → k < length l + j → get_or (l ++ replicate j a) k d ≡ a
past_at [] j k a d p q = get_or-replicate j k a d (omega arith)
past_at (x ∷ l) j zero a d p q = absurd (omega arith)
past_at (x ∷ l) j (suc k) a d p q = past_at l j k a d (omega arith) (omega arith)

-- ---- sizes

module _ (n : ℕ) (sizes : List ℕ) (e : length sizes ≡ n) where
  pub sizes_long : n ≤ most_kinds → length (widen_sizes n sizes) ≡ most_kinds
  sizes_long few = omega (arith, length-append sizes (replicate (most_kinds - n) 1), length-replicate {A = ℕ} (most_kinds - n) 1)

  pub size_here : (k : ℕ) → k < n → get_or (widen_sizes n sizes) k 0 ≡ get_or sizes k 0
  size_here k l = get_or-append sizes (replicate (most_kinds - n) 1) 0 k (omega arith)

  pub size_past : (k : ℕ) → n ≤ k → k < most_kinds → get_or (widen_sizes n sizes) k 0 ≡ 1
  size_past k l h = past_at sizes (most_kinds - n) k 1 0 (omega arith) (omega arith)

-- ---- weights

pub weigh_long : (ss : List ℕ) (cs : List ℤ) → length cs ≡ length ss → length (weigh ss cs) ≡ length ss
weigh_long [] cs e = refl
weigh_long (s ∷ ss) [] e = e
weigh_long (s ∷ ss) (c ∷ cs) e = let d : length cs ≡ length ss = omega arith in ap suc (weigh_long ss cs d)

pub weigh_at : (ss : List ℕ) (cs : List ℤ) (k : ℕ) → k < length ss → k < length cs → get_or (weigh ss cs) k 0 ≡ weight (get_or ss k 0) (get_or cs k (pos 0))
weigh_at [] cs k p q = absurd (omega arith)
weigh_at (s ∷ ss) [] k p q = absurd (omega arith)
weigh_at (s ∷ ss) (c ∷ cs) zero p q = refl
weigh_at (s ∷ ss) (c ∷ cs) (suc k) p q = weigh_at ss cs k (omega arith) (omega arith)

module _ (n : ℕ) (sizes : List ℕ) (costs : List ℤ) (fine : FineKit n sizes costs) where
  pub costs_long : length (widen_costs n costs) ≡ most_kinds
  costs_long = omega (arith, fine.few, fine.costed, length-append costs (replicate (most_kinds - n) (pos 0)), length-replicate (most_kinds - n) (pos 0))

  pub weights_long : length (weights n sizes costs) ≡ most_kinds
  weights_long =
      let e : length (widen_sizes n sizes) ≡ most_kinds = sizes_long n sizes fine.sized fine.few in
      weigh_long (widen_sizes n sizes) (widen_costs n costs) (costs_long ∙ sym e) ∙ e

  weight_of : (k : ℕ) → k < most_kinds → get_or (weights n sizes costs) k 0 ≡ weight (get_or (widen_sizes n sizes) k 0) (get_or (widen_costs n costs) k (pos 0))
  weight_of k h = weigh_at (widen_sizes n sizes) (widen_costs n costs) k (omega (arith, sizes_long n sizes fine.sized fine.few)) (omega (arith, costs_long))

  pub weight_here : (k : ℕ) → k < n → get_or (weights n sizes costs) k 0 ≡ weight (get_or sizes k 0) (get_or costs k (pos 0))
  weight_here k l =
      weight_of k (omega (arith, fine.few))
      ∙ ap₂ weight (size_here n sizes fine.sized k l) (get_or-append costs (replicate (most_kinds - n) (pos 0)) (pos 0) k (omega (arith, fine.costed)))

  -- the cost of kind k, as a signed local has it
  pub cost_read : (k : ℕ) → k < n → to_z w32 (of_z w32 (get_or costs k (pos 0))) ≡ get_or costs k (pos 0)
  cost_read k l = let z = get_or costs k (pos 0) in to_z-of_z w32 z record { sfits = omega (arith, mag_le z, nat_abs_reads z, all_at CostFine costs k (pos 0) (omega (arith, fine.costed)) fine.costs_fine) }

  pub weight_past : (k : ℕ) → n ≤ k → k < most_kinds → get_or (weights n sizes costs) k 0 ≡ weight 1 (pos 0)
  weight_past k l h =
      weight_of k h
      ∙ ap₂ weight (size_past n sizes fine.sized k l h) (past_at costs (most_kinds - n) k (pos 0) (pos 0) (omega (arith, fine.costed)) (omega (arith, fine.costed)))
