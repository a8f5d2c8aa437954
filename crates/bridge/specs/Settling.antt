-- Settling by a table of lists is settling in the theory: which row fits first, where no row fits, what the steps are.
-- Assumes nothing.
use Rattle.std.specs.Prelude.{ℕ, zero, suc, ◌≤◌, ◌<◌, ◌≡◌, refl, ◌⊎◌, List, [], ◌∷◌, ℤ}
use Rattle.std.proofs.Math.Path.{ap, subst}
use Rattle.std.proofs.Common.{sym, ◌∙◌, inl, inr, arith}
use Rattle.std.proofs.Math.ListN.{length}
use Rattle.terms.specs.Load.{Fits}
use Rattle.terms.specs.Order.{Before}
use Rattle.terms.specs.Swaps.{◌∈◌, exchange, Step}
use Rattle.terms.specs.Table.{Row}
use Rattle.terms.specs.Settling.{Proper, NoneFits, FirstFit, FirstFit.hit, FirstFit.miss, Settles, Settles.done, Settles.next, Leads, Leads.stop, Leads.more}
use Rattle.laws.specs.Load.{From}
use Rattle.laws.specs.Order.{OrderLaws}
use Rattle.laws.specs.Falls.{first_fit_in}
use Rattle.theory.specs.Kit.{Kit}
use Rattle.theory.specs.Rows.{Row as RowOf, AllProper, Irr, First, First.hit as fits-here, First.miss as fits-later, first?, first_mem, first_fits, step_rank, Steps, Steps.stop as in_place, Steps.more as onwards}
use Rattle.theory.specs.Settle.{nf, nf_irr, nf_first}
use Rattle.bridge.specs.Instance.{Load, load_path, sum, rest_of, fits_of, the_kit}
use Rattle.bridge.specs.Carry.{mem_map, mem_unmap}
use Rattle.bridge.specs.Rows.{plain, plain_table}
use Rattle.bridge.specs.Reach.{step_up, step_down}

-- ---- one end, whatever the table

pub first_fit_fits : {x : List ℕ} {a : Row} {T : List Row} → FirstFit x a T → Fits a.head x
first_fit_fits (hit e f) = f
first_fit_fits (miss n r) = first_fit_fits r

pub first_fit_one : {x : List ℕ} {a b : Row} {T : List Row} → FirstFit x a T → FirstFit x b T → a ≡ b
first_fit_one (hit e f) (hit e' f') = e ∙ sym e'
first_fit_one (hit e f) (miss n r) = absurd (n (rw e at f))
first_fit_one (miss n r) (hit e f) = absurd (n (rw e at f))
first_fit_one (miss n r) (miss n' r') = first_fit_one r r'

pub settles_one : {T : List Row} {x y z : List ℕ} → Settles T x y → Settles T x z → y ≡ z
settles_one (done i e) (done j d) = sym e ∙ d
settles_one (done i e) (next a f s r) = absurd (i a (first_fit_in f) (first_fit_fits f))
settles_one (next a f s r) (done i e) = absurd (i a (first_fit_in f) (first_fit_fits f))
settles_one {T} {x} {y} {z} (next {y = u} a f s r) (next {y = w} b g t q) =
    let e : u ≡ w = sym s.gives ∙ ap (λ (c : Row). exchange c.head c.tail x) (first_fit_one f g) ∙ t.gives in
    settles_one r (subst (λ (v : List ℕ). Settles T v z) (sym e) q)

-- ---- the theory's rows, read as lists

module _ (n : ℕ) (sizes : List ℕ) (sized : length sizes ≡ n) (pos : From 1 sizes) (costs : List ℤ) (laws : OrderLaws n (Before costs)) where
  abbrev K : Kit
  K = the_kit n sizes sized pos costs laws

  pub proper_up : {bound : ℕ} (T : List (RowOf (Load n))) → ((a : Row) → a ∈ plain_table T → Proper bound sizes costs a) → AllProper K T
  proper_up T ok a m = record { same = (ok (plain a) (mem_map plain T m)).even; lower = (ok (plain a) (mem_map plain T m)).falls }

  pub none_up : (T : List (RowOf (Load n))) (x : Load n) → NoneFits (plain_table T) x.0 → Irr K T x
  none_up T x i a m f = i (plain a) (mem_map plain T m) (fits_of a.head x f)

  pub none_down : (T : List (RowOf (Load n))) (x : Load n) → Irr K T x → NoneFits (plain_table T) x.0
  none_down T x i b m f =
      let r = mem_unmap plain T m in
      i r.0 r.1 (rest_of r.0.head x (subst (λ (a : Row). Fits a.head x.0) (sym r.2) f))

  abbrev FirstOf : Load n → Row → List (RowOf (Load n)) → Type 0
  FirstOf x b T = (a : RowOf (Load n)) × First K x a T × (plain a ≡ b)

  pub first_up : (x : Load n) (T : List (RowOf (Load n))) {b : Row} → FirstFit x.0 b (plain_table T) → FirstOf x b T
  first_up x [] f = elim f [ ]
  first_up x (a ∷ T) (hit e f) =
      (a, fits-here refl (rest_of a.head x (subst (λ (c : Row). Fits c.head x.0) e f)), sym e)
  first_up x (a ∷ T) (miss w r) =
      let u = first_up x T r in
      (u.0, fits-later (λ f. w (fits_of a.head x f)) u.1, u.2)

  pub first_down : (x : Load n) {a : RowOf (Load n)} {T : List (RowOf (Load n))} → First K x a T → FirstFit x.0 (plain a) (plain_table T)
  first_down x {a} (fits-here e f) = hit (ap plain e) (fits_of a.head x f)
  first_down x (fits-later {b = b} w r) = miss (λ f. w (rest_of b.head x f)) (first_down x r)

  -- ---- the end that the theory computes is the one that the table of lists settles to

  module _ (T : List (RowOf (Load n))) (ok : AllProper K T) where
    ends_at : {x z : List ℕ} → Settles (plain_table T) x z → (e : length x ≡ n) → (nf K T (x, e)).0 ≡ z
    ends_at {x} (done i d) e = ap (λ (w : Load n). w.0) (nf_irr K T (none_up T (x, e) i)) ∙ d
    ends_at {x} (next {y = y} b f s r) e =
        let u = first_up (x, e) T f in
        let a : RowOf (Load n) = u.0 in
        let st : Step a.head.0 a.tail.0 x y = subst (λ (c : Row). Step c.head c.tail x y) (sym u.2) s in
        let v = step_up a.head a.tail (x, e) st in
        let w : Load n = sum a.tail v.0 in
        let k : length y ≡ n = ap length (sym v.2) ∙ w.1 in
        let same : w ≡ (y, k) = load_path v.2 in
        ap (λ (q : Load n). q.0) (nf_first K T ok u.1 v.0 v.1 ∙ ap (nf K T) same) ∙ ends_at r k

    pub settles_up : (x : Load n) {z : List ℕ} → Settles (plain_table T) x.0 z → (nf K T x).0 ≡ z
    settles_up x s = ends_at s x.1

    one_round : (x : Load n) → ((w : Load n) → Kit.rank K w < Kit.rank K x → Settles (plain_table T) w.0 (nf K T w).0) → ((a : RowOf (Load n)) × First K x a T) ⊎ Irr K T x → Settles (plain_table T) x.0 (nf K T x).0
    one_round x ih (inr i) = done (none_down T x i) (ap (λ (w : Load n). w.0) (sym (nf_irr K T i)))
    one_round x ih (inl r) =
        let a : RowOf (Load n) = r.0 in
        let f = first_fits K r.1 in
        let w : Load n = sum a.tail f.0 in
        let rest : Settles (plain_table T) w.0 (nf K T w).0 = ih w (step_rank K (ok a (first_mem K r.1)) f.0 f.1) in
        next (plain a) (first_down x r.1) (step_down a.head a.tail f.0 x f.1) (subst (λ (q : Load n). Settles (plain_table T) w.0 q.0) (sym (nf_first K T ok r.1 f.0 f.1)) rest)

    settles_by : (k : ℕ) (x : Load n) → Kit.rank K x ≤ k → Settles (plain_table T) x.0 (nf K T x).0
    settles_by zero x l = one_round x (λ w q. absurd (omega arith)) (first? K T x)
    settles_by (suc k) x l = one_round x (λ w q. settles_by k w (omega arith)) (first? K T x)

    -- settling ends
    pub settles_down : (x : Load n) → Settles (plain_table T) x.0 (nf K T x).0
    settles_down x = settles_by (Kit.rank K x) x (omega arith)

  -- ---- steps by any rows

  StepsTo : List (RowOf (Load n)) → Load n → List ℕ → Type 0
  StepsTo T x z = (e : length z ≡ n) × Steps K T (z, e) x

  leads_at : (T : List (RowOf (Load n))) {x z : List ℕ} → Leads (plain_table T) x z → (e : length x ≡ n) → StepsTo T (x, e) z
  unfolding StepsTo
  leads_at T (stop d) e = (ap length (sym d) ∙ e, in_place (load_path d))
  leads_at T {x} {z} (more {y = y} b m s r) e =
      let u = mem_unmap plain T m in
      let a : RowOf (Load n) = u.0 in
      let st : Step a.head.0 a.tail.0 x y = subst (λ (c : Row). Step c.head c.tail x y) (sym u.2) s in
      let v = step_up a.head a.tail (x, e) st in
      let w : Load n = sum a.tail v.0 in
      let k : length y ≡ n = ap length (sym v.2) ∙ w.1 in
      let same : (y, k) ≡ w = load_path (sym v.2) in
      let t = leads_at T r k in
      (t.0, onwards a v.0 u.1 v.1 (subst (λ (q : Load n). Steps K T (z, t.0) q) same t.1))

  pub leads_up : (T : List (RowOf (Load n))) (x : Load n) {z : List ℕ} → Leads (plain_table T) x.0 z → (e : length z ≡ n) × Steps K T (z, e) x
  unfolding StepsTo
  leads_up T x s = leads_at T s x.1
