-- By the widened swaps x ++ z reaches what x reaches, with z beside it; so what is first of all reached, heads and tables carry over.
--     reach_wide, reach_narrow       what is reached
--     first_wide, first_narrow       the first of all reached, for any counts z of the further kinds
--     head_wide, head_narrow         a head of the wide kit has no part of the further kinds
-- Assumes nothing.
use Rattle.std.specs.Prelude.{ℕ, ◌+◌, ◌-◌, ◌≤◌, ◌<◌, ◌≡◌, refl, List, ◌++◌, map, length, get_or, take, drop, replicate, ℤ}
use Rattle.std.proofs.Common.{sym, ap, subst, ◌∙◌, inl, inr, ⊎_elim, arith, length-append, length-drop, length-set, take-append-drop, get_or-append-add, length-take-le}
use Rattle.std.proofs.lemmas.List.{append_cancel_right, length-replicate}
use Rattle.std.proofs.Math.Decide.{dec_le}
use Rattle.std.proofs.Math.ListN.{get_or-append, get_or-eq_default}
use Rattle.terms.specs.Load.{zeros, grade, without_one}
use Rattle.terms.specs.Limits.{most_kinds}
use Rattle.terms.specs.Order.{Before}
use Rattle.terms.specs.Swaps.{◌∈◌, Swap, exchange, Step, Reaches, Reaches.stay, Reaches.forth, Reaches.back}
use Rattle.terms.specs.Table.{FirstReached, Settled, Head}
use Rattle.laws.specs.Load.{all_map, fits_zeros, fits_length, length_less}
use Rattle.bridge.specs.Carry.{mem_map, mem_unmap}
use Rattle.bridge.specs.Rows.{IsSheet}
use Rattle.bridge.specs.Regular.{IsKit, Regular, reaches_regular}
use Rattle.padding.specs.Widen.{FineKit, widen, widen_swap, widen_sizes, widen_costs}
use Rattle.padding.specs.Beside.{fits_beside, fits_front, exchange_beside, grade_beside, grade_none, cost_beside, lex_beside, lex_front, without_front, without_beside, zero_or_part, zeros_none}

-- the counts of the further kinds
abbrev pub Further : ℕ → List ℕ → Type 0
Further n z = length z ≡ most_kinds - n

pub none_further : (n : ℕ) → Further n (zeros (most_kinds - n))
none_further n = length-replicate (most_kinds - n) 0

pub length_wide : (n : ℕ) → n ≤ most_kinds → (x : List ℕ) → length x ≡ n → length (widen n x) ≡ most_kinds
length_wide n few x e = omega (arith, length-append x (zeros (most_kinds - n)), none_further n)

pub grade_wide : (n : ℕ) (sizes x : List ℕ) → length sizes ≡ n → length x ≡ n → grade (widen_sizes n sizes) (widen n x) ≡ grade sizes x
grade_wide n sizes x sized e =
    omega (arith, grade_beside sizes (replicate (most_kinds - n) 1) x (zeros (most_kinds - n)) (e ∙ sym sized), grade_none (replicate (most_kinds - n) 1) (most_kinds - n))

-- ---- steps

module _ (n : ℕ) (h t x z : List ℕ) (p : length h ≡ n) (q : length t ≡ n) (k : Further n z) where
  pub step_wide : {y : List ℕ} → Step h t x y → Step (widen n h) (widen n t) (x ++ z) (y ++ z)
  step_wide {y} s = rw (← k) record {
    fits = fits_beside h x (zeros (length z)) z s.fits (fits_zeros z);
    gives = exchange_beside h t x z (sym (fits_length h x s.fits)) (q ∙ sym p ∙ sym (length_less h x s.fits)) ∙ ap (λ (l : List ℕ). l ++ z) s.gives;
  }

  -- a step of the widened swap, of x ++ z
  pub step_narrow : length x ≡ n → {w : List ℕ} → Step (widen n h) (widen n t) (x ++ z) w → Step h t x (exchange h t x) × (exchange h t x ++ z ≡ w)
  step_narrow e {w} s =
      let v = fits_front h x (zeros (most_kinds - n)) z (p ∙ sym e) s.fits in
      let g : exchange (widen n h) (widen n t) (x ++ z) ≡ exchange h t x ++ z = rw (← k) (exchange_beside h t x z (p ∙ sym e) (q ∙ sym p ∙ sym (length_less h x v))) in
      (record { fits = v; gives = refl }, sym g ∙ s.gives)

-- ---- what is reached

module _ {n : ℕ} {sizes : List ℕ} {costs : List ℤ} {sheet : List Swap} (fine : FineKit n sizes costs) (swaps : IsSheet n sizes sheet) where
  abbrev WideReach : List ℕ → List ℕ → Type 0
  WideReach = Reaches (map (widen_swap n) sheet)

  kit : IsKit n sizes
  kit = record { of_sizes = fine.sized; from_one = all_map (λ s h. h.0) sizes fine.sizes_fine }

  pub reg : Regular n sizes (Reaches sheet)
  reg = reaches_regular costs kit sheet swaps

  pub reach_wide : {x y : List ℕ} (z : List ℕ) → Further n z → Reaches sheet x y → WideReach (x ++ z) (y ++ z)
  reach_wide z k (stay e) = stay (ap (λ (l : List ℕ). l ++ z) e)
  reach_wide z k (forth {y = y} s m r st) =
      let w = swaps s m in
      forth (widen_swap n s) (mem_map (widen_swap n) sheet m) (reach_wide z k r) (step_wide n s.left s.right y z w.of_left w.of_right k st)
  reach_wide z k (back {y = y} s m r st) =
      let w = swaps s m in
      back (widen_swap n s) (mem_map (widen_swap n) sheet m) (reach_wide z k r) (step_wide n s.right s.left y z w.of_right w.of_left k st)

  -- w is some y with z beside it, and x reaches y
  abbrev Beside : List ℕ → List ℕ → List ℕ → Type 0
  Beside x z w = (y : List ℕ) × Reaches sheet x y × (y ++ z ≡ w)

  beside_step : {x y w z : List ℕ} → length x ≡ n → Further n z → (v : Beside x z y) (h t : List ℕ) → length h ≡ n → length t ≡ n → Step (widen n h) (widen n t) y w → Step h t v.0 (exchange h t v.0) × (exchange h t v.0 ++ z ≡ w)
  beside_step {z = z} e k v h t p q s = step_narrow n h t v.0 z p q k (reg.keeps e v.1) (rw v.2 s)

  pub reach_narrow : {x : List ℕ} (z : List ℕ) {w : List ℕ} → length x ≡ n → Further n z → WideReach (x ++ z) w → Beside x z w
  reach_narrow {x} z e k (stay d) = (x, stay refl, d)
  reach_narrow {x} z {w} e k (forth {y = y} s m r st) = go (reach_narrow z e k r) (mem_unmap (widen_swap n) sheet m)
    where
      go : Beside x z y → (t : Swap) × (t ∈ sheet) × (widen_swap n t ≡ s) → Beside x z w
      go v t =
          let g = swaps t.0 t.1 in
          let o = beside_step e k v t.0.left t.0.right g.of_left g.of_right (rw (← t.2) at st) in
          (exchange t.0.left t.0.right v.0, forth t.0 t.1 v.1 o.0, o.1)
  reach_narrow {x} z {w} e k (back {y = y} s m r st) = go (reach_narrow z e k r) (mem_unmap (widen_swap n) sheet m)
    where
      go : Beside x z y → (t : Swap) × (t ∈ sheet) × (widen_swap n t ≡ s) → Beside x z w
      go v t =
          let g = swaps t.0 t.1 in
          let o = beside_step e k v t.0.right t.0.left g.of_right g.of_left (rw (← t.2) at st) in
          (exchange t.0.right t.0.left v.0, back t.0 t.1 v.1 o.0, o.1)

  -- ---- the first of all reached

  before_wide : (x y z : List ℕ) → length x ≡ n → length y ≡ n → Before costs x y → Before (widen_costs n costs) (x ++ z) (y ++ z)
  before_wide x y z d e (inl l) =
      inl (rw (cost_beside costs (most_kinds - n) x z (d ∙ sym fine.costed), cost_beside costs (most_kinds - n) y z (e ∙ sym fine.costed)) l)
  before_wide x y z d e (inr p) =
      inr (cost_beside costs (most_kinds - n) x z (d ∙ sym fine.costed) ∙ p.0 ∙ sym (cost_beside costs (most_kinds - n) y z (e ∙ sym fine.costed)), lex_beside x y z p.1)

  before_narrow : (x y z : List ℕ) → length x ≡ n → length y ≡ n → Before (widen_costs n costs) (x ++ z) (y ++ z) → Before costs x y
  before_narrow x y z d e (inl l) =
      inl (rw (cost_beside costs (most_kinds - n) x z (d ∙ sym fine.costed), cost_beside costs (most_kinds - n) y z (e ∙ sym fine.costed)) at l)
  before_narrow x y z d e (inr p) =
      inr (sym (cost_beside costs (most_kinds - n) x z (d ∙ sym fine.costed)) ∙ p.0 ∙ cost_beside costs (most_kinds - n) y z (e ∙ sym fine.costed), lex_front x y z (d ∙ sym e) p.1)

  pub first_wide : {x y : List ℕ} (z : List ℕ) → length x ≡ n → Further n z → FirstReached costs (Reaches sheet) x y → FirstReached (widen_costs n costs) WideReach (x ++ z) (y ++ z)
  first_wide {x} {y} z e k f = record {
    reached = reach_wide z k f.reached;
    none_before = λ w r b.
        let v = reach_narrow z e k r in
        f.none_before v.0 v.1 (before_narrow v.0 y z (reg.keeps e v.1) (reg.keeps e f.reached) (rw v.2 b));
  }

  pub first_narrow : {x y : List ℕ} (z : List ℕ) → length x ≡ n → Further n z → FirstReached (widen_costs n costs) WideReach (x ++ z) (y ++ z) → FirstReached costs (Reaches sheet) x y
  first_narrow {x} {y} z e k f =
      let v = reach_narrow z e k f.reached in
      let r : Reaches sheet x y = subst (λ (l : List ℕ). Reaches sheet x l) (append_cancel_right v.0 y z v.2) v.1 in
      record {
        reached = r;
        none_before = λ w q b. f.none_before (w ++ z) (reach_wide z k q) (before_wide w y z (reg.keeps e q) (reg.keeps e r) b);
      }

  -- ---- heads

  module _ (bound : ℕ) where
    abbrev HeadHere : List ℕ → Type 0
    HeadHere = Head n bound sizes costs (Reaches sheet)

    abbrev pub HeadWide : List ℕ → Type 0
    HeadWide = Head most_kinds bound (widen_sizes n sizes) (widen_costs n costs) WideReach

    abbrev SettledWide : List ℕ → Type 0
    SettledWide = Settled (widen_costs n costs) WideReach

    parts_wide : {h : List ℕ} → HeadHere h → (i : ℕ) → 0 < get_or (widen n h) i 0 → SettledWide (without_one i (widen n h))
    parts_wide {h} w i l = go (dec_le (length h) i)
      where
        go : Dec (length h ≤ i) → SettledWide (without_one i (widen n h))
        go (yes p) =
            absurd (omega (arith, get_or-append-add h (zeros (most_kinds - n)) (i - length h) 0, zeros_none (most_kinds - n) (i - length h), ap (λ (j : ℕ). get_or (widen n h) j 0) (past (length h) p)))
          where
            past : (a : ℕ) → a ≤ i → a + (i - a) ≡ i
            past a p = omega arith
        go (no p) =
            let l' : i < length h = omega arith in
            let inside : 0 < get_or h i 0 = omega (arith, get_or-append h (zeros (most_kinds - n)) 0 i l') in
            rw (without_front h (zeros (most_kinds - n)) i l') (first_wide (zeros (most_kinds - n)) (length-set h i _ ∙ w.counts) (none_further n) (w.parts i inside))

    pub head_wide : {h : List ℕ} → HeadHere h → HeadWide (widen n h)
    head_wide {h} w = record {
      counts = length_wide n fine.few h w.counts;
      bounded = omega (arith, grade_wide n sizes h fine.sized w.counts, w.bounded);
      unsettled = λ s. w.unsettled (first_narrow (zeros (most_kinds - n)) w.counts (none_further n) s);
      parts = parts_wide w;
    }

    parts_narrow : (h : List ℕ) → length h ≡ n → HeadWide (widen n h) → (i : ℕ) → 0 < get_or h i 0 → Settled costs (Reaches sheet) (without_one i h)
    parts_narrow h e w i l = go (dec_le (length h) i)
      where
        go : Dec (length h ≤ i) → Settled costs (Reaches sheet) (without_one i h)
        go (yes p) = absurd (omega (arith, get_or-eq_default h 0 p))
        go (no p) =
            let l' : i < length h = omega arith in
            let inside : 0 < get_or (widen n h) i 0 = omega (arith, get_or-append h (zeros (most_kinds - n)) 0 i l') in
            first_narrow (zeros (most_kinds - n)) (length-set h i _ ∙ e) (none_further n) (rw (without_front h (zeros (most_kinds - n)) i l') at (w.parts i inside))

    pub head_back : {h : List ℕ} → length h ≡ n → HeadWide (widen n h) → HeadHere h
    head_back {h} e w = record {
      counts = e;
      bounded = omega (arith, grade_wide n sizes h fine.sized e, w.bounded);
      unsettled = λ s. w.unsettled (first_wide (zeros (most_kinds - n)) e (none_further n) s);
      parts = parts_narrow h e w;
    }

    -- with a part of a further kind it would be settled, as it is without that part
    none_beside : (g z : List ℕ) → length g ≡ n → Further n z → HeadWide (g ++ z) → z ≡ zeros (most_kinds - n)
    none_beside g z e k w = ⊎_elim (λ (o : z ≡ zeros (length z)). o ∙ ap zeros k) (λ t. absurd (w.unsettled (settled t))) (zero_or_part z)
      where
        settled : (j : ℕ) × (0 < get_or z j 0) → SettledWide (g ++ z)
        settled t =
            let part : 0 < get_or (g ++ z) (length g + t.0) 0 = rw (get_or-append-add g z t.0 0) t.1 in
            let less_one : SettledWide (g ++ without_one t.0 z) = rw (without_beside g z t.0) at (w.parts (length g + t.0) part) in
            first_wide {x = g} {y = g} z e k (first_narrow {x = g} {y = g} (without_one t.0 z) e (length-set z t.0 _ ∙ k) less_one)

    pub head_narrow : {h : List ℕ} → HeadWide h → (g : List ℕ) × HeadHere g × (widen n g ≡ h)
    head_narrow {h} w =
        let g : List ℕ = take n h in
        let z : List ℕ = drop n h in
        let whole : g ++ z ≡ h = take-append-drop n h in
        let e : length g ≡ n = length-take-le n h (omega (arith, w.counts, fine.few)) in
        let k : Further n z = length-drop n h ∙ ap (λ (l : ℕ). l - n) w.counts in
        let v : HeadWide (g ++ z) = rw whole w in
        let none : z ≡ zeros (most_kinds - n) = none_beside g z e k v in
        (g, head_back e (rw (← none) v), ap (λ (l : List ℕ). g ++ l) (sym none) ∙ whole)
