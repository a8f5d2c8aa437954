-- One grade done, where the first rows are looked at, and a grade without work: over `specs/Loop`.
use Rattle.std.specs.Prelude.{ℕ, suc, ◌≤◌, ◌<◌, ◌≡◌, List, [], ◌++◌, length, get_or}
use Rattle.std.proofs.Common.{append-nil}
use Rattle.theory.specs.Kit.{Kit}
use Rattle.theory.specs.Rows.{◌∈◌, Row, Irr}
use Rattle.theory.specs.Settle.{nf}
use Rattle.theory.specs.Table.{Table}
use Rattle.theory.specs.Critical.{New, Grown, grown_table}
use Rattle.theory.specs.Chain.{joined_sides, Covered}
use Rattle.theory.specs.Reach.{Reach, Either, either_reach, reach_made}
use Rattle.theory.specs.Complete.{Swap, Even, sheet_alike}
use Rattle.theory.specs.Grow.{new_none}
use Rattle.theory.specs.Tails.{tails_start}
use Rattle.theory.specs.Index.{pairs_at}
use Rattle.theory.specs.Loop.{PairAlike, swaps_at, listed_done}
use Rattle.theory.proofs.Chain.{first_chain, covered_pivots}

module _ (K : Kit) where
  infixl 70 ◌⊕◌
  open K use {L, ◌⊕◌, grade, join, join_right}

  -- ONE GRADE DONE.
  module _ (sheet : List (L × L)) (even : Even K sheet) (g : ℕ) (T₀ N : List (Row L)) (d : Row L) (e : L × L) where
    pub grade_done :
        New K (Reach K (Swap K sheet)) g T₀ N
        → ((a : Row L) → a ∈ N → Irr K (T₀ ++ N) a.tail)
        → ((k : ℕ) → k < length sheet → grade (get_or sheet k e).0 ≡ g → nf K (T₀ ++ N) (get_or sheet k e).0 ≡ nf K (T₀ ++ N) (get_or sheet k e).1)
        → ((i j : ℕ) → i < j → j < length T₀ → PairAlike K sheet even g T₀ N d e (get_or T₀ i d) (get_or T₀ j d))
        → Table K (Reach K (Swap K sheet)) (suc g) (T₀ ++ N)
    grade_done new tails sw pr = grown_table K (Reach K (Swap K sheet)) (Either K (Swap K sheet)) (sheet_alike K sheet even) g T₀ N grown
      where
        grown : Grown K (Reach K (Swap K sheet)) (Either K (Swap K sheet)) g T₀ N
        grown = record {
          new = new;
          new_tail = tails;
          given_rel = either_reach K (Swap K sheet) (λ l r m. even (l, r) m);
          made = λ x y q r. reach_made K (Swap K sheet) (λ l r m. even (l, r) m) x y r;
          swaps = swaps_at K sheet even g T₀ N d e sw;
          pairs = first_chain K g T₀ (T₀ ++ N) (λ a b m n h j q f. joined_sides K (T₀ ++ N) a b (pairs_at K d (PairAlike K sheet even g T₀ N d e) T₀ pr a b f n (join_right a.head b.head) h j q));
        }

  -- A GRADE WITHOUT WORK: no swap and no listed pair has it.
  pub grade_skip :
      (sheet : List (L × L)) (even : Even K sheet) (g B : ℕ) → g ≤ B → (T₀ : List (Row L)) (d : Row L) (e : L × L) (Listed : ℕ → ℕ → Type 0)
      → Table K (Reach K (Swap K sheet)) g T₀ → Covered K B (length T₀) T₀ d Listed
      → ((k : ℕ) → k < length sheet → ¬ (grade (get_or sheet k e).0 ≡ g))
      → ((p j : ℕ) → p < j → j < length T₀ → Listed p j → ¬ (grade (join (get_or T₀ p d).head (get_or T₀ j d).head) ≡ g))
      → Table K (Reach K (Swap K sheet)) (suc g) T₀
  grade_skip sheet even g B l T₀ d e Listed t cov sw pr =
      listed_done K sheet even g T₀ [] d e none Listed (λ k m q. absurd (sw k m q))
      (covered_pivots K B g l T₀ (T₀ ++ []) d Listed cov (λ p j k m w q. absurd (pr p j k m w q)))
      [] (tails_start K (Reach K (Swap K sheet)) (sheet_alike K sheet even) g T₀ [] none d) T₀
      (λ a m. rw (append-nil T₀) at m) (λ a m. rw (append-nil T₀) m)
    where
      none : New K (Reach K (Swap K sheet)) g T₀ []
      none = new_none K (Reach K (Swap K sheet)) (sheet_alike K sheet even) g T₀ t
