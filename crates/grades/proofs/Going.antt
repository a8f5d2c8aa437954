-- What the loops of one grade keep.
-- Assumes nothing.
use Rattle.std.specs.Prelude.{ℕ, ◌+◌, ◌≤◌, ◌<◌, ◌≡◌, List, ◌++◌, length, get_or}
use Rattle.std.proofs.Common.{ap, sym, ◌∙◌, ⊎_elim, arith}
use Rattle.std.proofs.lemmas.List.{get_or-map, length-map}
use mathlib.Core.List.Memᴰ
use Rattle.terms.specs.Load.{grade}
use Rattle.terms.specs.Swaps.{◌∈◌, Swap}
use Rattle.terms.specs.Table.{Row}
use Rattle.theory.specs.Rows.{Row as RowOf}
use Rattle.theory.specs.Grow.{new_proper}
use Rattle.theory.specs.Index.{at_mem}
use Rattle.rack.specs.Racked.{Sound, Loaded}
use Rattle.bridge.specs.Instance.{Load}
use Rattle.bridge.specs.Rows.{IsSwap}
use Rattle.growth.specs.Setting.{swap_of, KitOf, RelOf, alike_of}
use Rattle.growth.specs.Grade.{Grows, grows_none, grows_map, SwapsJoined}
use Rattle.growth.specs.Turns.{swap_turn, swap_skip}
use Rattle.growth.specs.End.{racked_of}
use Rattle.growth.specs.Finish.{stamp_grade, grade_stamp}
use Rattle.growth.specs.State.{JoinedIn, Within, SwapsDone}
use Rattle.grades.specs.Stamped.{as_swap, as_sheet, stamps_of}
use Rattle.grades.specs.declared.Stamped.{Stamped}

module _ {weights : List ℕ} {sheet : List Swap} {stamps : List ℕ} {g : ℕ} where
  -- the grade goes on with the rows that were added
  unfoldable pub within_now :
      {T₀ T : List Row} {J : List (RowOf (Load 12)) → Type 0} (w : Within weights sheet stamps g T₀)
      → Grows weights w.working.setting g w.low w.fresh T J → Within weights sheet stamps g T
  within_now w h = record {
    bound = w.bound;
    sizes = w.sizes;
    working = w.working;
    some = w.some;
    bounded = w.bounded;
    low = w.low;
    fresh = h.rows;
    is = h.is;
    new = h.later.new;
    apart = h.apart;
  }

  module _ {T : List Row} (w : Within weights sheet stamps g T) where
    -- its rows are proper
    unfoldable pub within_sound : Sound weights T
    within_sound = record {
      bound = w.bound;
      small = w.working.setting.small;
      sizes = w.sizes;
      racked = racked_of weights w.working.setting (w.low ++ w.fresh) T w.is w.working.weighed
          (new_proper (KitOf weights w.working.setting) (RelOf weights w.working.setting) (alike_of weights w.working.setting) g w.low w.fresh w.new) small;
    }
      where
        small : (a : RowOf (Load 12)) → a ∈ w.low ++ w.fresh → grade w.sizes a.head.0 ≤ w.bound
        small a m =
            ⊎_elim (λ (n : a ∈ w.low). omega (arith, (w.new.low.heads a n).under, w.bounded)) (λ (n : a ∈ w.fresh). omega (arith, w.new.new_grade a n, w.bounded)) (Memᴰ.append_cases w.low m)

    -- the sides of a swap that is due are loads within the bound
    module _ (k : ℕ) (l : k < length sheet) where
      is_swap : IsSwap 12 w.sizes (swap_of sheet k)
      is_swap =
          w.working.setting.sheet (swap_of sheet k) (at_mem _ sheet k l)

      pub due_grade : get_or stamps k 0 ≡ g → grade w.sizes (swap_of sheet k).left ≡ g
      due_grade e = stamp_grade w.bound (grade w.sizes (swap_of sheet k).left) g w.some w.bounded (sym (w.working.stamped k l) ∙ e)

      pub not_due : (get_or stamps k 0 ≡ g → ⊥) → grade w.sizes (swap_of sheet k).left ≡ g → ⊥
      not_due n e = n (w.working.stamped k l ∙ grade_stamp w.bound (grade w.sizes (swap_of sheet k).left) g w.bounded e)

      pub left_loaded : get_or stamps k 0 ≡ g → Loaded weights T (swap_of sheet k).left
      unfolding within_sound
      left_loaded e = record { sound = within_sound; long = is_swap.of_left; within = omega (arith, due_grade e, w.bounded) }

      pub right_loaded : get_or stamps k 0 ≡ g → Loaded weights T (swap_of sheet k).right
      unfolding within_sound
      right_loaded e = record { sound = within_sound; long = is_swap.of_right; within = omega (arith, due_grade e, is_swap.even, w.bounded) }

-- ---- the loop over the swaps

-- the first k swaps are joined, and there is room
pub record SwapsGoing (weights : List ℕ) (sheet : List Swap) (stamps : List ℕ) (g : ℕ) (T₀ : List Row) (room : ℕ) (T : List Row) (k : ℕ) : Type 0 where
  pub more : length T₀ ≤ length T
  pub roomy : length T ≤ room
  pub up_to : k ≤ length sheet
  pub grows : (w : Within weights sheet stamps g T₀) → Grows weights w.working.setting g w.low w.fresh T (SwapsJoined weights w.working.setting g w.low k)

module _ {weights : List ℕ} {sheet : List Swap} {stamps : List ℕ} {g : ℕ} {T₀ : List Row} {room : ℕ} where
  pub swaps_start : length T₀ ≤ room → SwapsGoing weights sheet stamps g T₀ room T₀ 0
  swaps_start l = record {
    more = omega arith;
    roomy = l;
    up_to = omega arith;
    grows = λ w. grows_none weights w.working.setting g w.low w.fresh T₀ (SwapsJoined weights w.working.setting g w.low 0) w.is w.new w.apart (λ i l q. absurd (omega arith));
  }

  module _ {T : List Row} {k : ℕ} (s : SwapsGoing weights sheet stamps g T₀ room T k) (l : k < length sheet) where
    -- one more swap was joined
    turned : {after : List Row} → get_or stamps k 0 ≡ g → JoinedIn weights T (swap_of sheet k).left (swap_of sheet k).right after
        → (w : Within weights sheet stamps g T₀) → Grows weights w.working.setting g w.low w.fresh after (SwapsJoined weights w.working.setting g w.low (k + 1))
    unfolding within_now
    turned {after} e j w =
        let h = s.grows w in
        swap_turn weights w.working.setting g w.low w.fresh k l T after h (due_grade (within_now w h) k l e) j.meets

    pub swaps_turn : {after : List Row} → get_or stamps k 0 ≡ g → JoinedIn weights T (swap_of sheet k).left (swap_of sheet k).right after → length after ≤ room → SwapsGoing weights sheet stamps g T₀ room after (k + 1)
    swaps_turn e j m = record { more = omega (arith, j.more, s.more); roomy = m; up_to = omega arith; grows = turned e j }

    pub swaps_skip : (get_or stamps k 0 ≡ g → ⊥) → SwapsGoing weights sheet stamps g T₀ room T (k + 1)
    unfolding within_now
    swaps_skip n = record {
      more = s.more;
      roomy = s.roomy;
      up_to = omega arith;
      grows = λ w.
          let h = s.grows w in
          swap_skip weights w.working.setting g w.low w.fresh k l T (not_due (within_now w h) k l n) h;
    }

    -- there is no room for one more row
    pub swaps_full : {after : List Row} → get_or stamps k 0 ≡ g → JoinedIn weights T (swap_of sheet k).left (swap_of sheet k).right after → room < length after → SwapsDone weights sheet stamps g T₀ room after
    swaps_full {after} e j m = record {
      more = omega (arith, j.more, s.more);
      one = omega (arith, j.one, s.roomy);
      grows = λ w.
          grows_map weights w.working.setting g w.low w.fresh after (SwapsJoined weights w.working.setting g w.low (k + 1)) (λ M. length after ≤ room → SwapsJoined weights w.working.setting g w.low (length sheet) M)
          (λ M new h l. absurd (omega arith)) (turned e j w);
    }

  pub swaps_end : {T : List Row} {k : ℕ} → SwapsGoing weights sheet stamps g T₀ room T k → length sheet ≤ k → SwapsDone weights sheet stamps g T₀ room T
  swaps_end {T} {k} s l = record {
    more = s.more;
    one = omega (arith, s.roomy);
    grows = λ w.
        grows_map weights w.working.setting g w.low w.fresh T (SwapsJoined weights w.working.setting g w.low k) (λ M. length T ≤ room → SwapsJoined weights w.working.setting g w.low (length sheet) M)
        (λ M new h m i n q. h i (omega (arith, s.up_to)) q) (s.grows w);
  }

-- ---- a swap that the program holds

module _ (swaps : List Stamped) (k : ℕ) (d : Stamped) (l : k < length swaps) where
  pub stamp_held : get_or (stamps_of swaps) k 0 ≡ (get_or swaps k d).stamp
  stamp_held = get_or-map (λ (a : Stamped). a.stamp) swaps k d 0 l

  swap_held : swap_of (as_sheet swaps) k ≡ as_swap (get_or swaps k d)
  swap_held = get_or-map as_swap swaps k d _ l

  pub left_held : (swap_of (as_sheet swaps) k).left ≡ (get_or swaps k d).left
  left_held = ap (λ (a : Swap). a.left) swap_held

  pub right_held : (swap_of (as_sheet swaps) k).right ≡ (get_or swaps k d).right
  right_held = ap (λ (a : Swap). a.right) swap_held

  pub in_sheet : k < length (as_sheet swaps)
  in_sheet = omega (arith, length-map swaps as_swap)
