-- At equal grade the order by weight is the cost order.
--     weight_whole       a weight is the cost and 1,000,000 for each of the size
--     weight_room        a weight is at most 1,001,000,000
--     before_weigh       the two orders agree
--     weights_parts, weights_filled      the weights of n kinds, and then those of the further kinds
-- Assumes nothing.
use Rattle.std.specs.Prelude.{ℕ, zero, suc, ◌+◌, ◌-◌, ◌*◌, ◌≤◌, ◌≡◌, refl, List, [], ◌∷◌, ◌++◌, map, length, take, drop, replicate, ℤ, pos, negsuc, ◌+ℤ◌, ◌*ℤ◌}
use Rattle.std.proofs.Common.{sym, ap, ap₂, ◌∙◌, arith, add-mul, mul_assoc, take_at}
use Rattle.std.proofs.lemmas.List.{drop-replicate}
use Rattle.terms.specs.Load.{grade}
use Rattle.terms.specs.Order.{cost}
use Rattle.terms.specs.Limits.{All, SizeFine, CostFine}
use Rattle.laws.specs.Signed.{up, down, same, plus_reads, times_up, times_down, nat_abs_reads}
use Rattle.laws.specs.Fill.{half}
use Rattle.padding.specs.Widen.{FineKit, weight, weigh, weights}
use Rattle.padding.specs.Kinds.{weigh_long}
use Rattle.padding.specs.Weigh.{cost_of_weights, Agree, before_same}

-- ---- weights

above : (z : ℤ) (a b : ℕ) → up z + a ≡ down z + b → a ≤ b → down z ≡ 0
above (pos k) a b e l = refl
above (negsuc k) a b e l = absurd (omega arith)

module _ (s : ℕ) (c : ℤ) (size : SizeFine s) (fine : CostFine c) where
  weight_above : down (c +ℤ pos (1000000 * s)) ≡ 0
  weight_above =
      above (c +ℤ pos (1000000 * s)) (down c) (up c + 1000000 * s) (omega (arith, plus_reads c (pos (1000000 * s)))) (omega (arith, nat_abs_reads c))

  -- a weight, as `omega` reads it
  pub weight_reads : weight s c + down c ≡ up c + 1000000 * s
  weight_reads = omega (arith, plus_reads c (pos (1000000 * s)), weight_above)

  -- nothing is cut off
  pub weight_whole : c +ℤ pos (1000000 * s) ≡ pos (weight s c)
  weight_whole = same (c +ℤ pos (1000000 * s)) (pos (weight s c)) (omega (arith, weight_above))

  pub weight_room : weight s c ≤ 1001000000
  weight_room = omega (arith, weight_reads, nat_abs_reads c)

suc_inj : {a b : ℕ} → suc a ≡ suc b → a ≡ b
suc_inj e = omega arith

-- the weight of a load is its cost and 1,000,000 for each of its grade
pub grade_weigh : (ss : List ℕ) (cs : List ℤ) (x : List ℕ) → length cs ≡ length ss → All SizeFine ss → All CostFine cs → grade (weigh ss cs) x + down (cost cs x) ≡ up (cost cs x) + 1000000 * grade ss x
grade_weigh [] [] x e f g = refl
grade_weigh [] (c ∷ cs) x e f g = absurd (omega arith)
grade_weigh (s ∷ ss) [] x e f g = absurd (omega arith)
grade_weigh (s ∷ ss) (c ∷ cs) [] e f g = refl
grade_weigh (s ∷ ss) (c ∷ cs) (x ∷ xs) e f g =
    omega (arith, grade_weigh ss cs xs (suc_inj e) f.1 g.1, plus_reads (pos x *ℤ c) (cost cs xs), times_up x c, times_down x c, ap (λ (k : ℕ). k * x) (weight_reads s c f.0 g.0), add-mul (weight s c) (down c) x, add-mul (up c) (1000000 * s) x, mul_assoc 1000000 s x)

-- ---- two orders that agree

module _ (n : ℕ) (ss : List ℕ) (cs : List ℤ) (even : length cs ≡ length ss) (f : All SizeFine ss) (g : All CostFine cs) where
  gap : (x y : List ℕ) → grade ss x ≡ grade ss y → up (cost cs x) + down (cost cs y) + grade (weigh ss cs) y ≡ up (cost cs y) + down (cost cs x) + grade (weigh ss cs) x
  gap x y d = omega (arith, grade_weigh ss cs x even f g, grade_weigh ss cs y even f g)

  reads : (x : List ℕ) → (up (cost (map pos (weigh ss cs)) x) ≡ grade (weigh ss cs) x) × (down (cost (map pos (weigh ss cs)) x) ≡ 0)
  reads x = (ap up (cost_of_weights (weigh ss cs) x), ap down (cost_of_weights (weigh ss cs) x))

  pub before_weigh : Agree n ss cs (map pos (weigh ss cs))
  before_weigh x y p q d = before_same cs (map pos (weigh ss cs)) x y (omega (arith, gap x y d, reads x, reads y))

  pub weigh_before : Agree n ss (map pos (weigh ss cs)) cs
  weigh_before x y p q d = before_same (map pos (weigh ss cs)) cs x y (omega (arith, gap x y d, reads x, reads y))

-- ---- the weights of the kinds, and then of the further ones

further_weights : (j : ℕ) → weigh (replicate j 1) (replicate j (pos 0)) ≡ replicate j (weight 1 (pos 0))
further_weights zero = refl
further_weights (suc j) = ap (λ (l : List ℕ). weight 1 (pos 0) ∷ l) (further_weights j)

pub weights_parts : (j : ℕ) (ss : List ℕ) (cs : List ℤ) → length cs ≡ length ss → weigh (ss ++ replicate j 1) (cs ++ replicate j (pos 0)) ≡ weigh ss cs ++ replicate j (weight 1 (pos 0))
weights_parts j [] [] e = further_weights j
weights_parts j [] (c ∷ cs) e = absurd (omega arith)
weights_parts j (s ∷ ss) [] e = absurd (omega arith)
weights_parts j (s ∷ ss) (c ∷ cs) e = ap (λ (l : List ℕ). weight s c ∷ l) (weights_parts j ss cs (suc_inj e))

-- of 12 weights as of further kinds the first n are written over
pub weights_filled : (n : ℕ) (ss : List ℕ) (cs : List ℤ) (fine : FineKit n ss cs) (w k : ℕ) → w ≡ weight 1 (pos 0) → k ≡ n → half (weights n ss cs) (replicate 12 w) k ≡ weights n ss cs
weights_filled n ss cs fine w k e d =
    let parts : weights n ss cs ≡ weigh ss cs ++ replicate (12 - n) (weight 1 (pos 0)) = weights_parts (12 - n) ss cs (fine.costed ∙ sym fine.sized) in
    let long : length (weigh ss cs) ≡ k = weigh_long ss cs (fine.costed ∙ sym fine.sized) ∙ fine.sized ∙ sym d in
    let first : take k (weights n ss cs) ≡ weigh ss cs = ap (take k) parts ∙ take_at (weigh ss cs) (replicate (12 - n) (weight 1 (pos 0))) k long in
    let rest : drop k (replicate 12 w) ≡ replicate (12 - n) (weight 1 (pos 0)) = drop-replicate k 12 w ∙ ap₂ (λ (i j : ℕ). replicate (12 - i) j) d e in
    ap₂ (λ (x y : List ℕ). x ++ y) first rest ∙ sym parts
