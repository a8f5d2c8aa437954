-- How a test is shown to decide.
-- Assumes nothing.
use Rattle.std.specs.Prelude.{ℕ, zero, suc, ◌<◌, ◌≡◌, Bool, true, false, T, List, [], ◌∷◌, length, get_or}
use Rattle.std.specs.Bool.{MatchBool}
use Rattle.std.specs.List.{AllWithin, HoldsAt}
use Rattle.std.proofs.Common.{sym, subst, arith}
use Rattle.terms.specs.Decides.{Decides}
use Rattle.terms.specs.Limits.{All}

pub false_true : false ≡ true → ⊥
false_true e = subst (λ (t : Bool). T t) (sym e) tt

pub decides_yes : {P : Type 0} → P → Decides P true
decides_yes p = record { holds = λ e. p; fails = λ e. absurd (false_true (sym e)) }

pub decides_no : {P : Type 0} → (P → ⊥) → Decides P false
decides_no n = record { holds = λ e. absurd (false_true e); fails = λ e. n }

pub decides_same : {P Q : Type 0} {r : Bool} → (P → Q) → (Q → P) → Decides P r → Decides Q r
decides_same f g d = record { holds = λ e. f (d.holds e); fails = λ e q. d.fails e (g q) }

-- what `all` answers, where its test decides P of each
module _ {A : Type 0} (P : A → Type 0) where
  all_at : (l : List A) (k : ℕ) (d : A) → k < length l → All P l → P (get_or l k d)
  all_at [] k d h a = absurd (omega arith)
  all_at (x ∷ l) zero d h a = a.0
  all_at (x ∷ l) (suc k) d h a = all_at l k d (omega arith) a.1

  all_within : (l : List A) → AllWithin P l 0 (length l) → All P l
  all_within [] w = tt
  all_within (x ∷ l) w = (w 0 x (omega arith) (omega arith), all_within l (λ k d h m. w (suc k) d (omega arith) (omega arith)))

  pub all_decided : (l : List A) (d : A) (r : Bool) → MatchBool r (AllWithin P l 0 (length l)) ((k : ℕ) × (k < length l) × HoldsAt (λ x. P x → ⊥) l k) → Decides (All P l) r
  all_decided l d true w = decides_yes (all_within l w)
  all_decided l d false w = decides_no (λ a. w.2 d (all_at l w.0 d w.1 a))
