-- What a load reaches by the swaps of a sheet is what it reaches in the theory.
-- Assumes nothing.
use Rattle.std.specs.Prelude.{ℕ, ◌≡◌, refl, List, length, ℤ}
use Rattle.std.proofs.Common.{ap, sym, subst, ◌∙◌}
use Rattle.terms.specs.Order.{Before}
use Rattle.terms.specs.Swaps.{◌∈◌, exchange, Step, Reaches, Reaches.stay, Reaches.forth, Reaches.back}
use Rattle.laws.specs.Load.{From, plus_comm}
use Rattle.laws.specs.Order.{OrderLaws}
use Rattle.theory.specs.Kit.{Kit}
use Rattle.theory.specs.Reach.{Reach, Reach.here as in_place, Reach.forth as onwards, Reach.back as backwards}
use Rattle.theory.specs.Complete.{Swap as Given}
use Rattle.bridge.specs.Instance.{Load, load_path, sum, rest_of, fits_of, the_kit}
use Rattle.bridge.specs.Loads.{exchange_rest}
use Rattle.bridge.specs.Carry.{mem_map, mem_unmap}
use Rattle.bridge.specs.Rows.{plain_swap, plain_sheet}

-- a step takes h from a load and puts t to what is left
pub step_up : {n : ℕ} (h t y : Load n) {z : List ℕ} → Step h.0 t.0 y.0 z → (c : Load n) × (sum h c ≡ y) × ((sum t c).0 ≡ z)
unfolding rest_of
step_up h t y s =
    let r = rest_of h y s.fits in
    (r.0, r.1, plus_comm t.0 r.0.0 ∙ s.gives)

pub step_down : {n : ℕ} (h t c y : Load n) → sum h c ≡ y → Step h.0 t.0 y.0 (sum t c).0
step_down {n} h t c y e = record {
  fits = fits_of h y (c, e);
  gives = ap (λ (w : Load n). exchange h.0 t.0 w.0) (sym e) ∙ exchange_rest h.0 t.0 c.0 (c.1 ∙ sym h.1);
}

module _ (n : ℕ) (sizes : List ℕ) (sized : length sizes ≡ n) (pos : From 1 sizes) (costs : List ℤ) (laws : OrderLaws n (Before costs)) (S : List (Load n × Load n)) where
  abbrev K : Kit
  K = the_kit n sizes sized pos costs laws

  abbrev ReachTo : Load n → List ℕ → Type 0
  ReachTo x z = (e : length z ≡ n) × Reach K (Given K S) x (z, e)

  there : (x : Load n) {z : List ℕ} (w : Load n) → w.0 ≡ z → Reach K (Given K S) x w → ReachTo x z
  there x {z} w e r =
      let k : length z ≡ n = ap length (sym e) ∙ w.1 in
      let same : w ≡ (z, k) = load_path e in
      (k, rw same at r)

  pub reaches_up : (x : Load n) {z : List ℕ} → Reaches (plain_sheet S) x.0 z → ReachTo x z
  reaches_up x (stay e) = there x x e (in_place refl)
  reaches_up x {z} (forth {y = y} s m q st) = go (reaches_up x q) (mem_unmap plain_swap S m)
    where
      go : ReachTo x y → (p : Load n × Load n) × (p ∈ S) × (plain_swap p ≡ s) → ReachTo x z
      go r p =
          let u = step_up p.0.0 p.0.1 (y, r.0) (rw (← p.2) at st) in
          there x (sum p.0.1 u.0) u.2 (onwards p.0.0 p.0.1 u.0 p.1 (rw u.1 r.1) refl)
  reaches_up x {z} (back {y = y} s m q st) = go (reaches_up x q) (mem_unmap plain_swap S m)
    where
      go : ReachTo x y → (p : Load n × Load n) × (p ∈ S) × (plain_swap p ≡ s) → ReachTo x z
      go r p =
          let u = step_up p.0.1 p.0.0 (y, r.0) (rw (← p.2) at st) in
          there x (sum p.0.0 u.0) u.2 (backwards p.0.0 p.0.1 u.0 p.1 (rw u.1 r.1) refl)

  pub reaches_down : (x : Load n) {y : Load n} → Reach K (Given K S) x y → Reaches (plain_sheet S) x.0 y.0
  reaches_down x (in_place e) = stay (ap (λ (w : Load n). w.0) e)
  reaches_down x {y} (onwards l r c s q e) =
      forth (plain_swap (l, r)) (mem_map plain_swap S s) (reaches_down x q) (subst (λ (w : Load n). Step l.0 r.0 (sum l c).0 w.0) e (step_down l r c (sum l c) refl))
  reaches_down x {y} (backwards l r c s q e) =
      back (plain_swap (l, r)) (mem_map plain_swap S s) (reaches_down x q) (subst (λ (w : Load n). Step r.0 l.0 (sum r c).0 w.0) e (step_down r l c (sum r c) refl))
