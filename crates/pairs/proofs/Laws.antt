-- Laws of the list of pairs, and of the next grade.
-- Assumes nothing.
use Prim.Native.Nat.{ℕ, zero, suc, min, ◌+◌, ◌≤◌, ◌<◌}
use mathlib.Core.Path.{◌≡◌, ap, ap₂, subst, ◌∙◌}
use mathlib.Core.Logic.{◌⊎◌, ⊎_elim}
use mathlib.Core.List.Memᴰ
use mathlib.Core.List.{List, [], ◌∷◌, ◌++◌}
use native.Mathlib.Nat.{eq-or-lt_of_le, le_of_suc-le-suc}
use native.Mathlib.Omega.{arith}
use Rattle.terms.specs.Load.{Fits, grade}
use Rattle.terms.specs.Swaps.{◌∈◌}
use Rattle.terms.specs.Table.{Row}
use Rattle.rack.specs.Rows.{head_at}
use Rattle.laws.specs.Load.{join}
use Rattle.pairs.specs.declared.Pair.{Pair}
use Rattle.pairs.specs.Pairs.{common, triangle, Pivot, Entry, PairList, NextAbove, Enterable}

-- ---- how many pairs there are

triangle_more : (m n : ℕ) → m ≤ n → triangle m ≤ triangle n
triangle_more m zero l = let e : m ≡ 0 = omega arith in rw e (omega arith)
triangle_more m (suc n) l = ⊎_elim (λ e. rw e (omega arith)) (λ h. omega (arith, triangle_more m n (le_of_suc-le-suc h))) (eq-or-lt_of_le l)

-- the rows up to row j have no more pairs than the list has places
pub triangle_room : (j : ℕ) → j < 256 → j + triangle j ≤ 32640
triangle_room j l = triangle_more (suc j) 256 l

-- ---- the list

-- no row has been entered, and the list is empty
pub pair_list_none : (bound : ℕ) (sizes : List ℕ) (T : List Row) → PairList bound sizes T 0 []
pair_list_none bound sizes T = record {
  entries = λ a m. absurd (Memᴰ.not-nil m);
  cover = λ i j l h q. absurd (omega arith);
  few = omega arith;
}

-- the list is as good for any table with the same heads of the rows entered
module _ (T T' : List Row) (n : ℕ) (same : (r : ℕ) → r < n → head_at T r ≡ head_at T' r) where
  common_same : (i j : ℕ) → i < n → j < n → common T i j ≡ common T' i j
  common_same i j p q = ap₂ join (same i p) (same j q)

  entry_same : (sizes : List ℕ) (a : Pair) → Entry sizes T n a → Entry sizes T' n a
  entry_same sizes a e = record { apart = e.apart; below = e.below; graded = e.graded ∙ ap (grade sizes) (common_same a.first a.second (omega (arith, e.apart, e.below)) e.below) }

  pivot_same : (list : List Pair) (i j : ℕ) → i < j → j < n → Pivot T list i j → Pivot T' list i j
  pivot_same list i j l h (p, m, f, w) =
      (p, m, subst (λ (z : List ℕ). Fits z (common T' i j)) (same p (omega arith)) (subst (λ (z : List ℕ). Fits (head_at T p) z) (common_same i j (omega arith) h) f), w)

  pub pair_list_table : (bound : ℕ) (sizes : List ℕ) (list : List Pair) → PairList bound sizes T n list → PairList bound sizes T' n list
  pair_list_table bound sizes list so = record {
    entries = λ a m. entry_same sizes a (so.entries a m);
    cover = λ i j l h q. pivot_same list i j l h (so.cover i j l h (omega (arith, ap (grade sizes) (common_same i j (omega arith) h))));
    few = so.few;
  }

-- ---- the next grade

pub next_above_start : (g limit : ℕ) → g < limit → NextAbove [] g limit limit
next_above_start g limit l = record { above = l; within = omega arith; least = λ d m. absurd (Memᴰ.not-nil m) }

-- one grade more: it is taken where it is above g, and the limit where it is not
pub next_above_more :
    (grades : List ℕ) (g limit best d taken : ℕ) → g < limit → NextAbove grades g limit best → ((g < d) × (taken ≡ d)) ⊎ ((d ≤ g) × (taken ≡ limit))
    → NextAbove (grades ++ d ∷ []) g limit (min best taken)
next_above_more grades g limit best d taken below so is = record {
  above = ⊎_elim (λ l. omega (arith, so.above, l.0, l.1)) (λ l. omega (arith, so.above, l.1)) is;
  within = omega (arith, so.within);
  least = λ e i p q.
      ⊎_elim (λ (w : e ∈ grades). omega (arith, so.least e w p q))
      (λ (w : e ∈ d ∷ []). let same : e ≡ d = Memᴰ.eq_of_singleton w in ⊎_elim (λ l. omega (arith, l.1)) (λ l. absurd (omega (arith, l.0))) is) (Memᴰ.append_cases grades i);
}

-- ---- what entering asks

pub enterable_less : (bound : ℕ) (sizes : List ℕ) (T : List Row) (n m : ℕ) → m ≤ n → Enterable bound sizes T n → Enterable bound sizes T m
enterable_less bound sizes T n m l so = record {
  small_sizes = so.small_sizes;
  small_heads = λ r h. so.small_heads r (omega arith);
  rows = omega (arith, so.rows);
  most = omega (arith, so.most);
  bounded = so.bounded;
}
