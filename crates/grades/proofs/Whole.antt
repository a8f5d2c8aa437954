-- What the loop over the grades keeps.
-- Assumes nothing.
use Rattle.std.specs.Prelude.{ℕ, suc, ◌+◌, ◌-◌, ◌≤◌, ◌<◌, ◌≡◌, List, [], map, length, get_or}
use Rattle.std.proofs.Common.{Option, map-id, sym, subst, ◌∙◌, arith}
use Rattle.std.specs.Prelude.{true, false, Result, Ok, Err, MatchResult}
use Rattle.std.specs.Result.{is_err}
use Rattle.std.specs.Iterator.{Drains}
use Rattle.std.proofs.lemmas.Iterator.{YieldsList, items_from_drains}
use mathlib.Core.List.Memᴰ
use Rattle.terms.specs.Swaps.{◌∈◌, Swap}
use Rattle.terms.specs.Table.{Row}
use Rattle.laws.specs.Decides.{false_true}
use Rattle.theory.specs.Index.{at_mem}
use Rattle.pairs.specs.declared.Pair.{Pair}
use Rattle.pairs.specs.Pairs.{PairList, NextAbove}
use Rattle.pairs.proofs.Laws.{pair_list_none}
use Rattle.growth.specs.Finish.{Idle, at_first, skip_to, finished_at}
use Rattle.growth.specs.State.{Working, AtGrade, GradeDone, AllDone}

pub record Grading (bound : ℕ) (sizes weights : List ℕ) (sheet : List Swap) (stamps : List ℕ) (room : ℕ) (list : List Pair) (T : List Row) (g : ℕ) : Type 0 where
  pub roomy : length T ≤ room
  pub some : 1 ≤ g
  pub up_to : g ≤ bound + 1
  pub at : (w : Working bound sizes weights sheet stamps) → AtGrade w g T
  pub entered : PairList bound sizes T (length T) list

-- the next grade, of the items that an iterator yields
pub next_of : {S : Type 0} {steps : S → Option ℕ → S → Type 0} {s : S} {all : List ℕ} {g limit r : ℕ} → ((xs : List ℕ) × Drains steps s xs × NextAbove xs g limit r) → YieldsList steps (λ x. x) s all → NextAbove all g limit r
next_of {all = all} {g} {limit} {r} (xs, (u, (t, y, n)), w) l = subst (λ (k : List ℕ). NextAbove k g limit r) (sym (map-id xs) ∙ items_from_drains xs (t, y, λ _. (u, n)) l) w

-- what a result says, by whether it is an error
module _ {T E : Type 0} (P Q : Type 0) where
  pub at_error : (r : Result T E) → MatchResult r (λ _. P) (λ _. Q) → is_err r ≡ true → Q
  at_error (Ok x) m e = absurd (false_true e)
  at_error (Err x) m e = m

  pub at_value : (r : Result T E) → MatchResult r (λ _. P) (λ _. Q) → is_err r ≡ false → P
  at_value (Ok x) m e = m
  at_value (Err x) m e = absurd (false_true (sym e))

-- what the calls for the next grade gave, of the stamps of the swaps and of the dues of the pairs
due_in : (list : List Pair) (a : Pair) → a ∈ list → a.due ∈ map (λ (b : Pair). b.due) list
due_in list a m = Memᴰ.map (λ (b : Pair). b.due) m

module _ {bound : ℕ} {sizes weights : List ℕ} {sheet : List Swap} {stamps : List ℕ} where
  -- nothing is due from grade f up to before grade g
  reached :
      {list : List Pair} {T : List Row} (f g limit : ℕ) → PairList bound sizes T (length T) list → f < g
      → NextAbove (map (λ (b : Pair). b.due) list) f (bound + 1) limit → NextAbove stamps f limit g
      → (w : Working bound sizes weights sheet stamps) → AtGrade w (suc f) T → AtGrade w g T
  reached {list} {T} f g limit entered m pr sw w a =
      subst (λ (h : ℕ). AtGrade w h T) (omega arith)
      (skip_to w T list entered (g - suc f) (suc f) (omega arith) (omega (arith, sw.within, pr.within)) idle a)
    where
      idle : (h : ℕ) → suc f ≤ h → h < (g - suc f) + suc f → Idle w h list
      idle h p q = record {
        no_swap_due = λ s k k< e. absurd (omega (arith, sw.least (get_or stamps k 0) (at_mem 0 stamps k (omega (arith, w.stamps_long))) (omega arith) (omega (arith, sw.within))));
        no_pair_due = λ b n e. absurd (omega (arith, sw.within, pr.least b.due (due_in list b n) (omega arith) (omega (arith, sw.within, pr.within))));
      }

  pub grading_start : {room g : ℕ} → NextAbove stamps 0 (bound + 1) g → Grading bound sizes weights sheet stamps room [] [] g
  grading_start {g = g} n = record {
    roomy = omega arith;
    some = omega (arith, n.above);
    up_to = n.within;
    at = λ w. reached 0 g (bound + 1) (pair_list_none bound sizes []) n.above record { above = omega arith; within = omega arith; least = λ d m. absurd (Memᴰ.not-nil m) } n w (at_first w);
    entered = pair_list_none bound sizes [];
  }

  module _ {room : ℕ} {list : List Pair} {T : List Row} {g : ℕ} (s : Grading bound sizes weights sheet stamps room list T g) where
    module _ {after : List Row} {list' : List Pair} (d : GradeDone bound sizes weights sheet stamps g T room after list') where
      pub grading_full : room < length after → AllDone bound sizes weights sheet room after
      grading_full l = record { one = d.one; finished = λ m. absurd (omega arith); full = d.full }

      pub grading_next : length after ≤ room → {limit g' : ℕ} → NextAbove (map (λ (b : Pair). b.due) list') g (bound + 1) limit → NextAbove stamps g limit g' → Grading bound sizes weights sheet stamps room list' after g'
      grading_next l {limit} {g'} n o = record {
        roomy = l;
        some = omega (arith, o.above);
        up_to = omega (arith, o.within, n.within);
        at = λ w. reached g g' limit (d.listed l) o.above n o w (d.done l w (s.at w));
        entered = d.listed l;
      }

    pub grading_end : Working bound sizes weights sheet stamps → bound < g → AllDone bound sizes weights sheet room T
    grading_end w l = record {
      one = omega (arith, s.roomy);
      finished = λ m. finished_at w T (subst (λ (h : ℕ). AtGrade w h T) (omega (arith, s.up_to)) (s.at w));
      full = λ m. absurd (omega (arith, s.roomy));
    }
