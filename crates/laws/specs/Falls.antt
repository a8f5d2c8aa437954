-- Walks by the rows of a table. For proper rows each step keeps the length and the grade, and what comes of it comes before what was.
-- Assumes nothing.
use Rattle.std.specs.Prelude.{ℕ, ◌≡◌, List, ◌⊎◌, length, ℤ}
use Rattle.std.proofs.Common.{sym, ap, subst, ◌∙◌, inl, inr, arith}
use mathlib.Core.List.Memᴰ
use Rattle.terms.specs.Load.{plus, less, grade}
use Rattle.terms.specs.Order.{Before}
use Rattle.terms.specs.Swaps.{◌∈◌, Step}
use Rattle.terms.specs.Table.{Row}
use Rattle.terms.specs.Settling.{Proper, FirstFit, FirstFit.hit, FirstFit.miss, Settles, Settles.next}
use Rattle.laws.specs.Load.{plus_comm, plus_less, grade_plus, fits_length, length_less}
use Rattle.laws.specs.Exchange.{exchange_long}
use Rattle.laws.specs.Order.{before_laws}
use Rattle.laws.specs.Flat.{Sides, Sided}
use Rattle.laws.specs.Strides.{Walks, Walks.stop, Walks.more, Strides}

-- ---- walks

pub first_fit_in : {x : List ℕ} {a : Row} {T : List Row} → FirstFit x a T → a ∈ T
first_fit_in (hit e w) = Memᴰ.head e
first_fit_in (miss n f) = Memᴰ.tail (first_fit_in f)

module _ {T : List Row} where
  pub walks_on : {x y z : List ℕ} → Walks T x y → Walks T y z → Walks T x z
  walks_on {z = z} (stop e) w = subst (λ (v : List ℕ). Walks T v z) (sym e) w
  walks_on (more a f s v) w = more a f s (walks_on v w)

  pub stride_walks : {x z : List ℕ} → Strides T x z → Walks T x z
  stride_walks s = more s.by s.fits s.step s.on

  pub walks_settles : {x y z : List ℕ} → Walks T x y → Settles T y z → Settles T x z
  walks_settles {z = z} (stop e) w = subst (λ (v : List ℕ). Settles T v z) (sym e) w
  walks_settles (more a f s v) w = next a f s (walks_settles v w)

-- ---- by proper rows

-- y has n counts and the grade of x, and comes before it
pub record Falls (n : ℕ) (sizes : List ℕ) (costs : List ℤ) (x y : List ℕ) : Type 0 where
  pub long : length y ≡ n
  pub graded : grade sizes y ≡ grade sizes x
  pub before : Before costs y x

-- y is x, or falls from it
abbrev pub Within : ℕ → List ℕ → List ℤ → List ℕ → List ℕ → Type 0
Within n sizes costs x y = (x ≡ y) ⊎ Falls n sizes costs x y

module _ (n bound : ℕ) (sizes : List ℕ) (costs : List ℤ) where
  pub step_falls : {x y : List ℕ} (a : Row) → Sides n a → Proper bound sizes costs a → Step a.head a.tail x y → Falls n sizes costs x y
  step_falls {x} {y} a w p s =
      let h = a.head in
      let t = a.tail in
      let rest = less x h in
      let left : length rest ≡ n = length_less h x s.fits ∙ w.of_head in
      let long : length x ≡ n = fits_length h x s.fits ∙ w.of_head in
      let whole : plus rest h ≡ x = plus_comm rest h ∙ plus_less h x s.fits in
      record {
        long = ap length (sym s.gives) ∙ exchange_long h t x s.fits (w.of_tail ∙ sym long) ∙ long;
        graded = omega (arith, ap (grade sizes) s.gives, ap (grade sizes) whole, grade_plus sizes rest t (left ∙ sym w.of_tail), grade_plus sizes rest h (left ∙ sym w.of_head), p.even);
        before = subst (λ (v : List ℕ). Before costs v x) s.gives (subst (λ (v : List ℕ). Before costs (plus rest t) v) whole ((before_laws costs n).shift rest t h left w.of_tail w.of_head p.falls));
      }

  falls_on : {x y z : List ℕ} → Falls n sizes costs x y → Within n sizes costs y z → Falls n sizes costs x z
  falls_on {x} f (inl e) = subst (λ (v : List ℕ). Falls n sizes costs x v) e f
  falls_on {x} {y} {z} f (inr g) =
      record { long = g.long; graded = g.graded ∙ f.graded; before = (before_laws costs n).trans z y x g.before f.before }

  module _ {T : List Row} (sided : Sided n T) (proper : (a : Row) → a ∈ T → Proper bound sizes costs a) where
    first_falls : {x y : List ℕ} (a : Row) → FirstFit x a T → Step a.head a.tail x y → Falls n sizes costs x y
    first_falls a f = step_falls a (sided a (first_fit_in f)) (proper a (first_fit_in f))

    pub walks_within : {x y : List ℕ} → Walks T x y → Within n sizes costs x y
    walks_within (stop e) = inl e
    walks_within (more a f s w) = inr (falls_on (first_falls a f s) (walks_within w))

    pub stride_falls : {x z : List ℕ} → Strides T x z → Falls n sizes costs x z
    stride_falls s = falls_on (first_falls s.by s.fits s.step) (walks_within s.on)

    pub settles_within : {x y : List ℕ} → Settles T x y → Within n sizes costs x y
    settles_within (Settles.done i e) = inl e
    settles_within (next a f s w) = inr (falls_on (first_falls a f s) (settles_within w))
