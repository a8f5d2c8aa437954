-- The rows of a flat table, what entering them asks, and the pairs listed in two flat lists.
-- Assumes nothing.
use Rattle.std.specs.Simd.{first_chunks}
use Rattle.std.specs.Prelude.{ℕ, zero, suc, ◌≤◌, map, take, drop, ◌+◌, ◌*◌, ◌<◌, ◌≡◌, List, [], ◌∷◌, ◌++◌, length, set}
use Rattle.std.proofs.Common.{ap, ap₂, sym, subst, refl, ◌∙◌, arith}
use Rattle.std.proofs.lemmas.List.{take-take, drop-take, drop-drop, get_or-set_same, get_or-set_other}
use Rattle.std.proofs.lemmas.Nat.{div-mul-add, mod-mul-add}
use Rattle.terms.specs.Flat.{left_at, row_at, table_of, numbered}
use Rattle.terms.specs.Table.{Row}
use Rattle.laws.specs.Load.{UpTo}
use Rattle.laws.specs.Numbered.{numbered_long, numbered_more, numbered_same, item_at}
use Rattle.rack.specs.Rows.{blank, head_at}
use Rattle.pairs.specs.declared.Pair.{Pair}
use Rattle.pairs.specs.Pairs.{PairList}
use Rattle.pairs.specs.Flat.{halves, pair_at, pairs_of, FlatEnterable}
use Rattle.pairs.proofs.Laws.{pair_list_table}

-- ---- the rows of a flat table, 24 counts each

half : (l : List ℕ) (at : ℕ) → drop 12 (take 24 (drop at l)) ≡ take 12 (drop (at + 12) l)
half l at = drop-take 12 12 (drop at l) ∙ ap (take 12) (drop-drop 12 at l)

rows_from : (flat : List ℕ) (r k m : ℕ) → k ≤ m → map halves (take k (first_chunks 24 m (drop (r * 24) flat))) ≡ numbered (row_at 12 flat) r k
rows_from flat r zero m l = refl
rows_from flat r (suc k) zero l = absurd (omega arith)
rows_from flat r (suc k) (suc m) l =
    let on : r * 24 + 24 ≡ suc r * 24 = omega arith in
    ap₂ ◌∷◌
    (ap₂ (λ (x y : List ℕ). record { head = x; tail = y }) (take-take 12 24 (drop (r * 24) flat) (omega arith)) (half flat (r * 24)))
    (ap (λ (x : List ℕ). map halves (take k (first_chunks 24 m x))) (drop-drop 24 (r * 24) flat ∙ ap (λ (i : ℕ). drop i flat) on) ∙ rows_from flat (suc r) k m (omega arith))

pub rows_there : (flat : List ℕ) (k m : ℕ) → k ≤ m → map halves (take k (first_chunks 24 m flat)) ≡ table_of 12 flat k
rows_there flat = rows_from flat 0

-- ---- the heads of a flat table

pub head_there : (flat : List ℕ) (n r : ℕ) → r < n → head_at (table_of 12 flat n) r ≡ left_at 12 flat r
head_there flat n r l = ap (λ (a : Row). a.head) (item_at (row_at 12 flat) blank n r l)

-- a list is as good for one row more
pub listed_on : (bound : ℕ) (sizes flat : List ℕ) (n : ℕ) (list : List Pair) → PairList bound sizes (table_of 12 flat n) n list → PairList bound sizes (table_of 12 flat (n + 1)) n list
listed_on bound sizes flat n =
    pair_list_table (table_of 12 flat n) (table_of 12 flat (n + 1)) n (λ r l. head_there flat n r l ∙ sym (head_there flat (n + 1) r (omega arith))) bound sizes

-- what entering n rows asks holds of the first m
pub enterable_first : (bound : ℕ) (sizes flat : List ℕ) (n m : ℕ) → m ≤ n → FlatEnterable bound sizes flat n → FlatEnterable bound sizes flat m
enterable_first bound sizes flat n m l so = (
  record {
    small_sizes = so.0.small_sizes;
    small_heads = λ r h. subst (UpTo 1000) (head_there flat n r (omega arith) ∙ sym (head_there flat m r h)) (so.0.small_heads r (omega arith));
    rows = omega (arith, numbered_long (row_at 12 flat) 0 m);
    most = omega (arith, so.0.most);
    bounded = so.0.bounded;
  },
  omega (arith, so.1),
)

-- ---- pairs listed

module _ (due mates : List ℕ) (pairs : ℕ) where
  pub pairs_long : length (pairs_of due mates pairs) ≡ pairs
  pairs_long = numbered_long (pair_at due mates) 0 pairs

  -- a pair is written at the next place, its rows as the number m
  module _ (pair : Pair) (m : ℕ) (is : m ≡ pair.first * 256 + pair.second) (low : pair.second < 256) (p : pairs < length due) (q : pairs < length mates) where
    written : pair_at (set due pairs pair.due) (set mates pairs m) pairs ≡ pair
    written = rw (get_or-set_same due pairs pair.due 0 p, get_or-set_same mates pairs m 0 q, is, div-mul-add pair.first 256 pair.second low, mod-mul-add pair.first 256 pair.second low) refl

    others : (i : ℕ) → i < pairs → pair_at (set due pairs pair.due) (set mates pairs m) i ≡ pair_at due mates i
    others i l = rw (get_or-set_other due pairs i pair.due 0 (omega arith), get_or-set_other mates pairs i m 0 (omega arith)) refl

    pub pairs_more : pairs_of (set due pairs pair.due) (set mates pairs m) (pairs + 1) ≡ pairs_of due mates pairs ++ pair ∷ []
    pairs_more =
        numbered_more (pair_at (set due pairs pair.due) (set mates pairs m)) pairs
        ∙ ap₂ (λ (l : List Pair) (a : Pair). l ++ a ∷ []) (numbered_same (pair_at (set due pairs pair.due) (set mates pairs m)) (pair_at due mates) pairs others) written
