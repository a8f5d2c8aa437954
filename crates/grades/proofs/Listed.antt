-- What the loop over the listed pairs of a grade keeps.
-- Assumes nothing.
use Rattle.std.specs.Prelude.{ℕ, ◌≤◌, ◌<◌, ◌≡◌, refl, List, [], ◌∷◌, ◌++◌, length, get_or}
use Rattle.std.proofs.Common.{ap, ap₂, sym, subst, ◌∙◌, arith, length-append}
use lib.ListN.{get_or-append}
use mathlib.Core.List.Memᴰ
use Rattle.terms.specs.Load.{grade}
use Rattle.terms.specs.Swaps.{◌∈◌, Swap, exchange}
use Rattle.terms.specs.Table.{Row}
use Rattle.laws.specs.Load.{join, join_comm}
use Rattle.theory.specs.Kit.{Kit}
use Rattle.theory.specs.Rows.{Row as RowOf}
use Rattle.theory.specs.Index.{at_mem}
use Rattle.theory.specs.Complete.{left_side, right_side, pair_rel}
use Rattle.rack.specs.Racked.{Loaded}
use Rattle.rack.specs.Rows.{blank, head_at, tail_at}
use Rattle.pairs.specs.declared.Pair.{Pair}
use Rattle.pairs.specs.Pairs.{common, Entry}
use Rattle.bridge.specs.Instance.{Load}
use Rattle.bridge.specs.Rows.{plain, plain_table}
use Rattle.growth.specs.Setting.{no_row, KitOf, RelOf, alike_of, table_long, row_is}
use Rattle.growth.specs.Grade.{Grows, grows_none, grows_map, PairsJoined, common_grade}
use Rattle.growth.specs.End.{common_is as common_below}
use Rattle.growth.specs.Meets.{Meets}
use Rattle.growth.specs.Turns.{left_made, right_made, pair_turn, pair_skip}
use Rattle.growth.specs.State.{JoinedIn, Within, made, Listing, PairsDone}
use Rattle.grades.proofs.Going.{within_now, within_sound}

-- ---- the rows below the grade, in the working table

module _ {weights : List ℕ} {sheet : List Swap} {stamps : List ℕ} {g : ℕ} {T : List Row} (w : Within weights sheet stamps g T) where
  abbrev all : List (RowOf (Load 12))
  all = w.low ++ w.fresh

  abbrev at : ℕ → RowOf (Load 12)
  at p = get_or w.low p no_row

  low_in : (p : ℕ) → p < length w.low → p < length T
  low_in p l = omega (arith, table_long all T w.is, length-append w.low w.fresh)

  low_row : (p : ℕ) → p < length w.low → plain (at p) ≡ get_or T p blank
  low_row p l =
      ap plain (sym (get_or-append w.low w.fresh no_row p l))
      ∙ row_is all T w.is p

  pub low_left : (p : ℕ) → p < length w.low → (at p).head.0 ≡ head_at T p
  low_left p l = ap (λ (a : Row). a.head) (low_row p l)

  pub low_right : (p : ℕ) → p < length w.low → (at p).tail.0 ≡ tail_at T p
  low_right p l = ap (λ (a : Row). a.tail) (low_row p l)

  module _ (p j : ℕ) (l : p < length w.low) (m : j < length w.low) where
    pub both_common : join (at p).head.0 (at j).head.0 ≡ common T p j
    both_common = ap₂ join (low_left p l) (low_left j m)

    pub first_made : exchange (at p).head.0 (at p).tail.0 (join (at p).head.0 (at j).head.0) ≡ made T p j
    first_made = rw (low_left p l, low_right p l, low_left j m)

    pub second_made : exchange (at j).head.0 (at j).tail.0 (join (at p).head.0 (at j).head.0) ≡ made T j p
    second_made = ap (exchange (at j).head.0 (at j).tail.0) (join_comm (at p).head.0 (at j).head.0) ∙ rw (low_left p l, low_right j m, low_left j m)

    -- what the rows of the working table make, joined, as the theory asks
    pub meets_made :
        (V U : List Row) → Meets weights V (made T p j) (made T j p) U
        → Meets weights V (exchange (at p).head.0 (at p).tail.0 (join (at p).head.0 (at j).head.0)) (exchange (at j).head.0 (at j).tail.0 (join (at p).head.0 (at j).head.0)) U
    meets_made V U m =
        subst (λ (z : List ℕ). Meets weights V (exchange (at p).head.0 (at p).tail.0 (join (at p).head.0 (at j).head.0)) z U) (sym second_made)
        (subst (λ (z : List ℕ). Meets weights V z (made T j p) U) (sym first_made) m)

    -- both are loads of the grade
    module _ (q : grade w.sizes (common T p j) ≡ g) where
      abbrev K : Kit
      K = KitOf weights w.working.setting

      abbrev R : Load 12 → Load 12 → Type 0
      R = RelOf weights w.working.setting

      rel : R (Kit.join K (at p).head (at j).head) (left_side K R (alike_of weights w.working.setting) g w.low (at p) (at j)) × R (Kit.join K (at p).head (at j).head) (right_side K R (alike_of weights w.working.setting) g w.low (at p) (at j))
      rel = pair_rel K R (alike_of weights w.working.setting) g w.low w.new.low (at p) (at j) (at_mem no_row w.low p l) (at_mem no_row w.low j m)

      loaded_of : (x : Load 12) (y : List ℕ) → x.0 ≡ y → R (Kit.join K (at p).head (at j).head) x → Loaded weights T y
      unfolding within_sound
      loaded_of x y e r = record {
        sound = within_sound w;
        long = ap length (sym e) ∙ x.1;
        within = omega (arith, ap (grade w.sizes) e, (alike_of weights w.working.setting).rel_grade (Kit.join K (at p).head (at j).head) x r, ap (grade w.sizes) both_common, w.bounded);
      }

      pub first_loaded : Loaded weights T (made T p j)
      first_loaded =
          loaded_of (left_side K R (alike_of weights w.working.setting) g w.low (at p) (at j)) (made T p j)
          (left_made weights w.working.setting g w.low (at p) (at j) ∙ first_made) rel.0

      pub second_loaded : Loaded weights T (made T j p)
      second_loaded =
          loaded_of (right_side K R (alike_of weights w.working.setting) g w.low (at p) (at j)) (made T j p)
          (right_made weights w.working.setting g w.low (at p) (at j) ∙ second_made) rel.1

-- ---- the loop

-- what stands past the end of a list of pairs
abbrev pub no_pair : Pair
no_pair = record { due = 0; first = 0; second = 0 }

pub pair_in : (list : List Pair) (k : ℕ) → k < length list → get_or list k no_pair ∈ list
pair_in list k l = at_mem no_pair list k l

-- the pairs `done` are joined
pub record PairsGoing (weights : List ℕ) (list : List Pair) (g : ℕ) (T₀ : List Row) (room : ℕ) (T : List Row) (done : List Pair) : Type 0 where
  pub more : length T₀ ≤ length T
  pub roomy : length T ≤ room
  pub grows :
      {sheet : List Swap} {stamps : List ℕ} (q : Listing weights sheet stamps g list T₀)
      → Grows weights q.within.working.setting g q.within.low q.within.fresh T (PairsJoined weights q.within.working.setting g q.within.low done)

-- a pair that stands on the list
module _ {weights : List ℕ} {sheet : List Swap} {stamps : List ℕ} {g : ℕ} {list : List Pair} {T₀ : List Row} (q : Listing weights sheet stamps g list T₀) (a : Pair) (m : a ∈ list) where
  abbrev entry : Entry q.within.sizes (plain_table q.within.low) (length q.within.low) a
  entry = q.entered.entries a m

  first_below : a.first < length q.within.low
  first_below = omega (arith, entry.apart, entry.below)

  due_level : a.due ≡ common_grade weights q.within.working.setting g q.within.low a.first a.second
  due_level = entry.graded ∙ ap (grade q.within.sizes) (sym (common_below weights q.within.working.setting q.within.low (plain_table q.within.low) refl a.first a.second))

  -- the heads of the rows below are where they were
  due_now : (T : List Row) {J : List (RowOf (Load 12)) → Type 0} → Grows weights q.within.working.setting g q.within.low q.within.fresh T J → a.due ≡ grade q.within.sizes (common T a.first a.second)
  unfolding within_now
  due_now T h = due_level ∙ ap (grade q.within.sizes) (both_common (within_now {T = T} q.within h) a.first a.second first_below entry.below)

module _ {weights : List ℕ} {list : List Pair} {g : ℕ} {T₀ : List Row} {room : ℕ} where
  pub pairs_start : length T₀ ≤ room → PairsGoing weights list g T₀ room T₀ []
  pairs_start l = record {
    more = omega arith;
    roomy = l;
    grows = λ q.
        let w = q.within in
        grows_none weights w.working.setting g w.low w.fresh T₀ (PairsJoined weights w.working.setting g w.low []) w.is w.new w.apart (λ a m. absurd (Memᴰ.not-nil m));
  }

  module _ {T : List Row} {done : List Pair} (s : PairsGoing weights list g T₀ room T done) (a : Pair) (m : a ∈ list) where
    turned :
        {after : List Row} → a.due ≡ g → JoinedIn weights T (made T a.first a.second) (made T a.second a.first) after
        → {sheet : List Swap} {stamps : List ℕ} (q : Listing weights sheet stamps g list T₀)
        → Grows weights q.within.working.setting g q.within.low q.within.fresh after (PairsJoined weights q.within.working.setting g q.within.low (done ++ a ∷ []))
    unfolding within_now
    turned {after} e joined q =
        let h = s.grows q in
        let w = q.within in
        let n = entry q a m in
        let level : common_grade weights w.working.setting g w.low a.first a.second ≡ g = sym (due_level q a m) ∙ e in
        pair_turn weights w.working.setting g w.low w.fresh done a n.apart n.below T after h level
        (meets_made (within_now {T = T} w h) a.first a.second (first_below q a m) n.below T after joined.meets)

    module _ {after : List Row} (e : a.due ≡ g) (joined : JoinedIn weights T (made T a.first a.second) (made T a.second a.first) after) where
      pub pairs_turn : length after ≤ room → PairsGoing weights list g T₀ room after (done ++ a ∷ [])
      pairs_turn l = record { more = omega (arith, joined.more, s.more); roomy = l; grows = λ q. turned e joined q }

      pub pairs_full : room < length after → PairsDone weights list g T₀ room after
      pairs_full l = record {
        more = omega (arith, joined.more, s.more);
        one = omega (arith, joined.one, s.roomy);
        grows = λ q.
            let w = q.within in
            grows_map weights w.working.setting g w.low w.fresh after (PairsJoined weights w.working.setting g w.low (done ++ a ∷ [])) (λ M. length after ≤ room → PairsJoined weights w.working.setting g w.low list M)
            (λ M new h k. absurd (omega arith)) (turned e joined q);
      }

    -- what joining the pair asks
    pub pairs_asked :
        {sheet : List Swap} {stamps : List ℕ} (q : Listing weights sheet stamps g list T₀) → room ≤ 256 → a.due ≡ g
        → (a.first < length T) × (a.second < length T) × (length T ≤ 256) × Loaded weights T (made T a.first a.second) × Loaded weights T (made T a.second a.first)
    unfolding within_now
    pairs_asked q few e =
        let w = q.within in
        let n = within_now {T = T} w (s.grows q) in
        let p< : a.first < length w.low = first_below q a m in
        let j< : a.second < length w.low = (entry q a m).below in
        let level : grade w.sizes (common T a.first a.second) ≡ g = sym (due_now q a m T (s.grows q)) ∙ e in
        (low_in n a.first p<, low_in n a.second j<, omega (arith, s.roomy), first_loaded n a.first a.second p< j< level, second_loaded n a.first a.second p< j< level)

    pub pairs_skip : (a.due ≡ g → ⊥) → PairsGoing weights list g T₀ room T (done ++ a ∷ [])
    pairs_skip n = record {
      more = s.more;
      roomy = s.roomy;
      grows = λ q.
          let w = q.within in
          let o = entry q a m in
          pair_skip weights w.working.setting g w.low w.fresh done a o.apart o.below T (λ d. n (due_level q a m ∙ d)) (s.grows q);
    }

  pub pairs_end : {T : List Row} → PairsGoing weights list g T₀ room T list → PairsDone weights list g T₀ room T
  pairs_end {T} s = record {
    more = s.more;
    one = omega (arith, s.roomy);
    grows = λ q.
        let w = q.within in
        grows_map weights w.working.setting g w.low w.fresh T (PairsJoined weights w.working.setting g w.low list) (λ M. length T ≤ room → PairsJoined weights w.working.setting g w.low list M)
        (λ M new h l. h) (s.grows q);
  }
