-- The end of a grade, in the theory: with the swaps and the listed pairs of the grade joined and the tails settled, the table is right up to that grade.
-- Assumes nothing.
use Rattle.std.specs.Prelude.{ℕ, suc, ◌≤◌, ◌<◌, ◌≡◌, List, ◌++◌, length, get_or}
use Rattle.std.proofs.Common.{ap₂, sym, subst, arith}
use Rattle.terms.specs.Load.{grade, Fits}
use Rattle.terms.specs.Swaps.{◌∈◌, Swap}
use Rattle.terms.specs.Table.{Row}
use Rattle.terms.specs.Settling.{Proper}
use Rattle.laws.specs.Load.{join}
use Rattle.laws.specs.Flat.{Sides}
use Rattle.theory.specs.Kit.{Kit, Fits as FitsIn}
use Rattle.theory.specs.Rows.{Row as RowOf, AllProper}
use Rattle.theory.specs.Table.{Alike, Table}
use Rattle.theory.specs.Critical.{New}
use Rattle.theory.specs.Chain.{Covered, Pivots}
use Rattle.theory.proofs.Chain.{covered_pivots}
use Rattle.theory.specs.Tails.{Tails}
use Rattle.theory.specs.Loop.{listed_done}
use Rattle.rack.specs.Racked.{costs_of, Racked}
use Rattle.rack.specs.Rows.{head_at}
use Rattle.pairs.specs.Pairs.{common, Listed, PairList}
use Rattle.pairs.specs.declared.Pair.{Pair}
use Rattle.bridge.specs.Carry.{mem_unmap}
use Rattle.bridge.specs.Instance.{Load, rest_of}
use Rattle.bridge.specs.Rows.{plain, plain_table}
use Rattle.growth.specs.Setting.{Setting, no_row, no_swap, KitOf, SheetOf, RelOf, alike_of, even_of, sheet_long, table_long, head_is}
use Rattle.growth.specs.Grade.{SwapsJoined, PairsJoined, AlikeMade, common_grade}

module _ {bound : ℕ} {sizes : List ℕ} {sheet : List Swap} (weights : List ℕ) (s : Setting bound sizes sheet) where
  abbrev K : Kit
  K = KitOf weights s

  abbrev R : Load 12 → Load 12 → Type 0
  R = RelOf weights s

  abbrev eqv : Alike K R
  eqv = alike_of weights s

  -- rows that are proper in the theory are so in the working table
  pub racked_of :
      (T : List (RowOf (Load 12))) (U : List Row) → plain_table T ≡ U → length weights ≡ 12
      → AllProper K T → ((a : RowOf (Load 12)) → a ∈ T → grade sizes a.head.0 ≤ bound) → Racked bound sizes weights U
  racked_of T U e w ok small = record {
    sizes_long = s.kit.of_sizes;
    positive = s.kit.from_one;
    weights_long = w;
    sided = λ a m. by_row (Sides 12) (λ b n. record { of_head = b.head.1; of_tail = b.tail.1 }) a m;
    proper = λ a m. by_row (Proper bound sizes (costs_of weights)) (λ b n. let p = ok b n in record { even = p.same; bounded = small b n; falls = p.lower }) a m;
  }
    where
      by_row : (P : Row → Type 0) → ((b : RowOf (Load 12)) → b ∈ T → P (plain b)) → (a : Row) → a ∈ U → P a
      by_row P h a m = let r = mem_unmap plain T (rw (← e) at m) in subst P r.2 (h r.0 r.1)

  module _ (T₀ : List (RowOf (Load 12))) (T : List Row) (e₀ : plain_table T₀ ≡ T) where
    head_of : (i : ℕ) → (get_or T₀ i no_row).head.0 ≡ head_at T i
    head_of i = head_is T₀ T e₀ i

    pub common_is : (i j : ℕ) → join (get_or T₀ i no_row).head.0 (get_or T₀ j no_row).head.0 ≡ common T i j
    common_is i j = ap₂ join (head_of i) (head_of j)

    fits_in : (p i j : ℕ) → Fits (head_at T p) (common T i j) → FitsIn K (get_or T₀ p no_row).head (Kit.join K (get_or T₀ i no_row).head (get_or T₀ j no_row).head)
    fits_in p i j f =
        rest_of (get_or T₀ p no_row).head (Kit.join K (get_or T₀ i no_row).head (get_or T₀ j no_row).head)
        (subst (λ (h : List ℕ). Fits h (join (get_or T₀ i no_row).head.0 (get_or T₀ j no_row).head.0)) (sym (head_of p)) (subst (λ (u : List ℕ). Fits (head_at T p) u) (sym (common_is i j)) f))

    module _ (list : List Pair) (entered : PairList bound sizes T (length T) list) where
      -- the list covers every pair of rows within the bound
      pub covered_of : Covered K bound (length T₀) T₀ no_row (Listed list)
      covered_of i j l m q =
          let r = entered.cover i j l (rw (← (table_long T₀ T e₀)) m) (subst (λ (u : List ℕ). grade sizes u ≤ bound) (common_is i j) q) in
          (r.0, r.1, fits_in r.0 i j r.2, r.3)

      module _ (g : ℕ) (lg : g ≤ bound) where
        made_alike : (N : List (RowOf (Load 12))) → PairsJoined weights s g T₀ list N → (p j : ℕ) → p < j → j < length T₀ → Listed list p j → common_grade weights s g T₀ p j ≡ g → AlikeMade weights s g T₀ N p j
        made_alike N h p j l m (a, n, e, f) q =
            subst (λ (x : ℕ). AlikeMade weights s g T₀ N x j) e
            (subst (λ (y : ℕ). AlikeMade weights s g T₀ N a.first y) f (h a n (omega arith) (omega arith) (rw (e, f) q)))

        pivots_of : (N : List (RowOf (Load 12))) → PairsJoined weights s g T₀ list N → Pivots K g T₀ (T₀ ++ N) no_row (Listed list)
        unfolding AlikeMade
        pivots_of N h = covered_pivots K bound g lg T₀ (T₀ ++ N) no_row (Listed list) covered_of (made_alike N h)

        -- ONE GRADE DONE
        pub grade_end :
            (N : List (RowOf (Load 12))) (new : New K R g T₀ N) → SwapsJoined weights s g T₀ (length sheet) N → PairsJoined weights s g T₀ list N
            → (M : List (RowOf (Load 12))) → Tails K R eqv g T₀ N new no_row (length M) M
            → (U : List (RowOf (Load 12))) → ((a : RowOf (Load 12)) → a ∈ T₀ ++ M → a ∈ U) → ((a : RowOf (Load 12)) → a ∈ U → a ∈ T₀ ++ M)
            → Table K R (suc g) U
        grade_end N new sw pr M t U to from =
            listed_done K (SheetOf weights s) (even_of weights s) g T₀ N no_row no_swap new (Listed list)
            (λ k l q. sw k (rw (sheet_long weights s) at l) q) (pivots_of N pr) M t U to from
