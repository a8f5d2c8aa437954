-- One grade, stage by stage: swaps joined, listed pairs joined, tails settled, rows in order.
-- Assumes nothing.
use Rattle.std.specs.Prelude.{ℕ, suc, ◌≤◌, ◌<◌, ◌≡◌, List, [], ◌++◌, length, get_or, take, drop}
use Rattle.std.specs.List.{refill}
use Rattle.std.proofs.Common.{ap, sym, subst, ◌∙◌, append-nil, arith, length-take, length-drop, drop_of_length-le, take_all}
use Rattle.std.proofs.lemmas.List.{length-map}
use Rattle.std.proofs.lemmas.List.Sorted.{length_permutation}
use Rattle.terms.specs.Swaps.{Swap}
use Rattle.terms.specs.Table.{Row}
use Rattle.laws.specs.Load.{UpTo, counts_up_to}
use Rattle.theory.specs.Kit.{Kit}
use Rattle.theory.specs.Rows.{Row as RowOf}
use Rattle.theory.specs.Unique.{Sorted, Sorted.none, Sorted.next}
use Rattle.theory.specs.Finished.{Above, above_irrefl}
use Rattle.theory.specs.Grow.{new_none}
use Rattle.theory.specs.Index.{at_mem}
use Rattle.rack.specs.Rows.{as_row, as_rows, head_at, SortedFrom}
use Rattle.rack.specs.declared.Row.{Row as Held}
use Rattle.pairs.specs.declared.Pair.{Pair}
use Rattle.pairs.specs.Pairs.{PairList, Enterable}
use Rattle.pairs.proofs.Laws.{pair_list_table}
use Rattle.bridge.specs.Instance.{Load}
use Rattle.bridge.specs.Rows.{plain_table}
use Rattle.bridge.specs.Tables.{ByCounts, by_counts}
use Rattle.growth.specs.Setting.{no_row, KitOf, RelOf, alike_of, table_long, head_is}
use Rattle.growth.specs.Grade.{SwapsJoined, PairsJoined}
use Rattle.growth.specs.Turns.{swaps_stay}
use Rattle.growth.specs.Meets.{Apart}
use Rattle.growth.specs.Finish.{no_room_for}
use Rattle.growth.specs.Ended.{grade_ended, heads_kept}
use Rattle.growth.specs.State.{Working, AtGrade, Within, SwapsDone, Listing, PairsDone, TailsSettled, NoRoomFor, GradeDone}
use Rattle.grades.proofs.Going.{within_now}

-- the number of rows before the grade
pub base_is : (T : List Held) {n : ℕ} → n ≡ length T → n ≡ length (as_rows T)
base_is T e = omega (arith, length-map T as_row)

-- a slice written back whole
pub written : {A : Type 0} (xs ws : List A) → length ws ≡ length xs → refill (length xs) xs ws ≡ ws
written xs ws e =
    ap (λ l. take (length xs) (ws ++ l)) (drop_of_length-le xs (omega arith)) ∙ ap (take (length xs)) (append-nil ws) ∙ take_all (length xs) ws (omega arith)

-- sorting leaves as many rows
sorted_long : {base : ℕ} {before after : List Row} → base ≤ length before → SortedFrom base before after → length after ≡ length before
sorted_long {base} {before} {after} l s =
    omega (arith, ap length s.kept, length-take base before, length-take base after, length-drop base before, length-drop base after, length_permutation (drop base before) (drop base after) s.same)

module _ {bound : ℕ} {sizes weights : List ℕ} {sheet : List Swap} {stamps : List ℕ} (w : Working bound sizes weights sheet stamps) {g : ℕ} {T : List Row} (at : AtGrade w g T) (some : 1 ≤ g) (bounded : g ≤ bound) where
  abbrev K : Kit
  K = KitOf weights w.setting

  abbrev R : Load 12 → Load 12 → Type 0
  R = RelOf weights w.setting

  pub apart_of : {l : List (RowOf (Load 12))} → Sorted (Above K ByCounts) l → Apart weights w.setting g at.all l
  apart_of none = none
  apart_of (next {a = a} {l = l} p s) =
      next {a = a} {l = l} (λ b m e. above_irrefl K ByCounts (by_counts 12) a (subst (λ (x : Load 12). Above K ByCounts a record { head = x; tail = b.tail }) (sym e) (p b m))) (apart_of s)

  pub all_long : length at.all ≡ length T
  all_long = table_long at.all T at.is

  -- no new row yet
  unfoldable pub opened : Within weights sheet stamps g T
  opened = record {
    bound = bound;
    sizes = sizes;
    working = w;
    some = some;
    bounded = bounded;
    low = at.all;
    fresh = [];
    is = ap plain_table (append-nil at.all) ∙ at.is;
    new = new_none K R (alike_of weights w.setting) g at.all at.right;
    apart = subst (Apart weights w.setting g at.all) (sym (append-nil at.all)) (apart_of at.order);
  }

  -- ---- the swaps are joined

  module _ {t₁ : List Row} {room : ℕ} (sd : SwapsDone weights sheet stamps g T room t₁) where
    unfoldable pub swapped : Within weights sheet stamps g t₁
    swapped = within_now opened (sd.grows opened)

    pub swaps_overfull : room < length t₁ → NoRoomFor bound sizes weights sheet room
    unfolding swapped opened within_now
    swaps_overfull l = no_room_for room swapped l

    -- ---- the listed pairs are joined

    module _ {list : List Pair} (entered : PairList bound sizes T (length T) list) where
      unfoldable pub listing : Listing weights sheet stamps g list t₁
      unfolding swapped opened within_now
      listing = record {
        within = swapped;
        entered = subst (λ (U : List Row). PairList bound sizes U (length at.all) list) (sym at.is) (subst (λ (n : ℕ). PairList bound sizes T n list) (sym all_long) entered);
      }

      module _ {t₂ : List Row} (pd : PairsDone weights list g t₁ room t₂) where
        unfoldable pub paired : Within weights sheet stamps g t₂
        unfolding listing
        paired = within_now swapped (pd.grows listing)

        pub pairs_overfull : room < length t₂ → NoRoomFor bound sizes weights sheet room
        unfolding paired listing swapped opened within_now
        pairs_overfull l = no_room_for room paired l

        pub below_long : length paired.low ≡ length T
        unfolding paired listing swapped opened within_now
        below_long = all_long

        -- what settling the tails asks, of the rows as they are lent
        pub tails_asked : (rows : List Held) {n : ℕ} → as_rows rows ≡ t₂ → n ≡ length T → ((sheet' : List Swap) × (stamps' : List ℕ) × (g' : ℕ) × (v : Within weights sheet' stamps' g' (as_rows rows)) × (length v.low ≡ n)) × (n ≤ length rows)
        tails_asked rows e f = (rw (e, f) (sheet, stamps, g, paired, below_long), omega (arith, f, sd.more, pd.more, ap length e, length-map rows as_row))

        -- ---- the tails are settled, and the new rows are in order

        module _ {t₃ : List Row} (ts : TailsSettled weights t₂ (length T) t₃) {t₄ : List Row} (sf : SortedFrom (length T) t₃ t₄) where
          below_all : length T ≤ length t₃
          below_all = omega (arith, sd.more, pd.more, ts.long)

          pub sorted_all : length t₄ ≡ length t₂
          sorted_all = sorted_long below_all sf ∙ ts.long

          pub below_now : length T ≤ length t₄
          below_now = omega (arith, sd.more, pd.more, sorted_all)

          swaps_joined : length t₁ ≤ room → SwapsJoined weights w.setting g at.all (length sheet) paired.fresh
          unfolding paired listing swapped opened within_now
          swaps_joined l = swaps_stay weights w.setting g at.all (length sheet) (omega arith) (sd.grows opened).rows (pd.grows listing).rows (pd.grows listing).later ((sd.grows opened).so l)

          pairs_joined : length t₂ ≤ room → PairsJoined weights w.setting g at.all list paired.fresh
          unfolding paired listing swapped opened within_now
          pairs_joined l = (pd.grows listing).so l

          pub ended : length t₁ ≤ room → length t₂ ≤ room → AtGrade w (suc g) t₄
          unfolding paired listing swapped opened within_now
          ended l m =
              grade_ended paired t₃ (ts.done paired below_long) t₄ (length T) below_long sf T at.is list entered at.order (swaps_joined l) (pairs_joined m)

          pub heads_still : (i : ℕ) → i < length T → head_at T i ≡ head_at t₄ i
          unfolding paired listing swapped opened within_now
          heads_still i l = sym (heads_kept paired t₃ (ts.done paired below_long) t₄ (length T) below_long sf T at.is i l)

          pub list_still : PairList bound sizes t₄ (length T) list
          list_still = pair_list_table T t₄ (length T) heads_still bound sizes list entered

          pub enterable : length t₁ ≤ room → length t₂ ≤ room → room ≤ 256 → Enterable bound sizes t₄ (length t₄)
          enterable l m q = record {
            small_sizes = record { long = w.setting.kit.of_sizes; up_to = w.sizes_up };
            small_heads = λ r n. small (ended l m) r n;
            rows = omega arith;
            most = omega (arith, sorted_all);
            bounded = w.setting.small;
          }
            where
              small : (a : AtGrade w (suc g) t₄) (r : ℕ) → r < length t₄ → UpTo 1000 (head_at t₄ r)
              small a r n =
                  let k : (get_or a.all r no_row).head.0 ≡ head_at t₄ r = head_is a.all t₄ a.is r in
                  let h = a.right.heads (get_or a.all r no_row) (at_mem no_row a.all r (omega (arith, table_long a.all t₄ a.is))) in
                  subst (UpTo 1000) k (counts_up_to sizes (get_or a.all r no_row).head.0 1000 ((get_or a.all r no_row).head.1 ∙ sym w.setting.kit.of_sizes) w.setting.kit.from_one (omega (arith, h.under, bounded, w.setting.small)))

-- ---- what the grade leaves

module _ {bound : ℕ} {sizes weights : List ℕ} {sheet : List Swap} {stamps : List ℕ} (w : Working bound sizes weights sheet stamps) {g : ℕ} {T : List Row} (at : AtGrade w g T) (some : 1 ≤ g) (bounded : g ≤ bound) {t₁ : List Row} {room : ℕ} (sd : SwapsDone weights sheet stamps g T room t₁) where
  pub full_by_swaps : (list : List Pair) → room < length t₁ → GradeDone bound sizes weights sheet stamps g T room t₁ list
  full_by_swaps list l = record {
    one = sd.one;
    done = λ m. absurd (omega arith);
    listed = λ m. absurd (omega arith);
    full = λ m. swaps_overfull w at some bounded sd l;
  }

  module _ {list : List Pair} (entered : PairList bound sizes T (length T) list) {t₂ : List Row} (pd : PairsDone weights list g t₁ room t₂) where
    pub full_by_pairs : room < length t₂ → GradeDone bound sizes weights sheet stamps g T room t₂ list
    full_by_pairs l = record {
      one = pd.one;
      done = λ m. absurd (omega arith);
      listed = λ m. absurd (omega arith);
      full = λ m. pairs_overfull w at some bounded sd entered pd l;
    }

    pub grade_left :
        {t₃ t₄ : List Row} {list' : List Pair} → TailsSettled weights t₂ (length T) t₃ → SortedFrom (length T) t₃ t₄ → length t₁ ≤ room → length t₂ ≤ room
        → PairList bound sizes t₄ (length t₄) list' → GradeDone bound sizes weights sheet stamps g T room t₄ list'
    grade_left ts sf l m listed = record {
      one = omega (arith, pd.one, sorted_all w at some bounded sd entered pd ts sf);
      done = λ o v a. ended v a some bounded sd entered pd ts sf l m;
      listed = λ o. listed;
      full = λ o. absurd (omega (arith, sorted_all w at some bounded sd entered pd ts sf));
    }
