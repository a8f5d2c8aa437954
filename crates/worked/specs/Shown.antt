-- A line of the table is shown by computing: the finished table by completion, then what is asked of it.
--     shown      a proof that the line is right, where what is computed is what it says
--     all_hold   so one computed test shows every line of a table
-- Assumes nothing.
use Rattle.std.specs.Prelude.{ℕ, suc, ◌*◌, ◌≤◌, ◌≡◌, refl, List, [], ◌∷◌, length, get_or, drop, Bool, true, false, cond, nat_abs}
use Rattle.std.proofs.Common.{ap, ap₂, subst, inl, inr, ⊎_elim, arith}
use Rattle.std.proofs.Math.Option.{Option, none, some}
use mathlib.Core.List.Memᴰ
use Rattle.std.proofs.Math.Decide.{dec_le, ℕ_discrete}
use Rattle.terms.specs.Load.{grade, zeros}
use Rattle.terms.specs.Swaps.{◌∈◌, Swap}
use Rattle.terms.specs.Settling.{Settles}
use Rattle.terms.specs.Flat.{sheet_of, filled}
use Rattle.terms.specs.Limits.{All, most_kinds, most_bound, most_size, most_cost}
use Rattle.terms.specs.Refusals.{number_of}
use Rattle.terms.specs.declared.Refusal.TheVariants.{NoRoom, OverBound}
use Rattle.laws.specs.Load.{all_map}
use Rattle.laws.specs.Order.{before_laws}
use Rattle.theory.specs.Kit.{Kit}
use Rattle.theory.specs.Rows.{Row as RowOf, AllProper}
use Rattle.theory.specs.Settle.{nf}
use Rattle.theory.specs.Table.{table_proper}
use Rattle.theory.specs.Finished.{Finished as FinishedIn}
use Rattle.theory.proofs.Finished.{finished_some}
use Rattle.bridge.specs.Instance.{Load}
use Rattle.bridge.specs.Rows.{plain_table, IsSwap, IsSheet, loads_sheet, loads_even}
use Rattle.bridge.specs.Tables.{ByCounts, by_counts}
use Rattle.bridge.specs.Settling.{settles_down}
use Rattle.bridge.specs.Regular.{IsKit, loads_kit, ReachOf, reaches_alike}
use Rattle.bridge.specs.Sheet.{sheet_finished}
use Rattle.worked.specs.Examples.{Given, Asked, Asked.complete, Asked.settle, Answer, Answer.rows, Answer.done, Answer.refused, Example, Accepted, Completes, SettlesBy, Says, Holds}

false_not_true : false ≡ true → ⊥
false_not_true e = subst (λ (b : Bool). cond b ⊥ (Unit {0})) e tt

-- ---- tests that give a proof, or nothing

unfoldable pub sure : {A : Type 0} → Dec A → Option A
sure (yes a) = some a
sure (no n) = none

unfoldable pub with_it : {A B : Type 0} → (A → B) → Option A → Option B
with_it f none = none
with_it f (some a) = some (f a)

unfoldable pub both? : {A B : Type 0} → Option A → Option B → Option (A × B)
both? none b = none
both? (some a) none = none
both? (some a) (some b) = some (a, b)

unfoldable pub between? : (low high k : ℕ) → Option ((low ≤ k) × (k ≤ high))
between? low high k = both? (sure (dec_le low k)) (sure (dec_le k high))

unfoldable pub each? : {A : Type 0} {P : A → Type 0} → ((a : A) → Option (P a)) → (l : List A) → Option (All P l)
each? t [] = some tt
each? t (a ∷ l) = both? (t a) (each? t l)

unfoldable pub counts? : (x y : List ℕ) → Option (x ≡ y)
counts? [] [] = some refl
counts? [] (y ∷ ys) = none
counts? (x ∷ xs) [] = none
counts? (x ∷ xs) (y ∷ ys) = with_it (λ p. ap₂ ◌∷◌ p.0 p.1) (both? (sure (ℕ_discrete x y)) (counts? xs ys))

unfoldable pub answer? : (a b : Answer) → Option (a ≡ b)
answer? (rows k) (rows m) = with_it (ap rows) (sure (ℕ_discrete k m))
answer? (rows k) done = none
answer? (rows k) (refused m) = none
answer? done (rows m) = none
answer? done done = some refl
answer? done (refused m) = none
answer? (refused k) (rows m) = none
answer? (refused k) done = none
answer? (refused k) (refused m) = with_it (ap refused) (sure (ℕ_discrete k m))

unfoldable pub outcome? : (o p : Answer × List ℕ) → Option (o ≡ p)
outcome? o p = with_it (λ q i. (q.0 i, q.1 i)) (both? (answer? o.0 p.0) (counts? o.1 p.1))

unfoldable pub apart? : (x y : List ℕ) → Option (x ≡ y → ⊥)
apart? [] [] = none
apart? [] (y ∷ ys) = some (λ e. omega (arith, ap length e))
apart? (x ∷ xs) [] = some (λ e. omega (arith, ap length e))
apart? (x ∷ xs) (y ∷ ys) = go (ℕ_discrete x y) (apart? xs ys)
  where
    go : Dec (x ≡ y) → Option (xs ≡ ys → ⊥) → Option (x ∷ xs ≡ y ∷ ys → ⊥)
    go (no n) r = some (λ e. n (ap (λ (l : List ℕ). get_or l 0 0) e))
    go (yes p) none = none
    go (yes p) (some n) = some (λ e. n (ap (λ (l : List ℕ). drop 1 l) e))

unfoldable pub there? : {A : Type 0} → Option A → Bool
there? none = false
there? (some a) = true

pub taken : {A : Type 0} (o : Option A) → there? o ≡ true → A
unfolding there?
taken none e = absurd (false_not_true e)
taken (some a) e = a

pub both_true : (a b : Bool) → cond a b false ≡ true → (a ≡ true) × (b ≡ true)
both_true true b e = (refl, e)
both_true false b e = absurd (false_not_true e)

-- ---- kit and sheet

unfoldable pub swap? : (n : ℕ) (sizes : List ℕ) (s : Swap) → Option (IsSwap n sizes s)
swap? n sizes s =
    with_it (λ p. record { of_left = p.0; of_right = p.1.0; even = p.1.1 })
    (both? (sure (ℕ_discrete (length s.left) n)) (both? (sure (ℕ_discrete (length s.right) n)) (sure (ℕ_discrete (grade sizes s.left) (grade sizes s.right)))))

unfoldable pub accepted? : (g : Given) → Option (Accepted g)
accepted? g =
    with_it (λ p. record { of_kinds = p.0; of_bound = p.1.0; of_sizes = p.1.1.0; of_costs = p.1.1.1.0; of_swaps = p.1.1.1.1.0; of_sides = p.1.1.1.1.1 })
    (both? (between? 1 most_kinds g.kinds)
    (both? (between? 1 most_bound g.bound)
    (both? (both? (sure (ℕ_discrete (length g.sizes) g.kinds)) (each? (between? 1 most_size) g.sizes))
    (both? (both? (sure (ℕ_discrete (length g.costs) g.kinds)) (each? (λ c. sure (dec_le (nat_abs c) most_cost)) g.costs))
    (both? (each? (swap? g.kinds g.sizes) (sheet_of g.kinds g.swaps)) (each? (λ s. apart? s.left s.right) (sheet_of g.kinds g.swaps)))))))

pub all_in : {A : Type 0} (P : A → Type 0) (l : List A) → All P l → (a : A) → a ∈ l → P a
all_in P [] u a m = absurd (Memᴰ.not-nil m)
all_in P (b ∷ l) u a m = ⊎_elim (λ (e : a ≡ b). rw e u.0) (all_in P l u.1 a) (Memᴰ.cases_cons m)

module _ (g : Given) (ok : Accepted g) where
  abbrev pub kit : IsKit g.kinds g.sizes
  kit = record { of_sizes = ok.of_sizes.0; from_one = all_map (λ s h. h.0) g.sizes ok.of_sizes.1 }

  abbrev pub sheet : IsSheet g.kinds g.sizes (sheet_of g.kinds g.swaps)
  sheet = all_in (IsSwap g.kinds g.sizes) (sheet_of g.kinds g.swaps) ok.of_swaps

  abbrev pub K : Kit
  K = loads_kit g.costs kit

  -- the finished table, by completion
  abbrev pub Tabled : Type 0
  Tabled = (T : List (RowOf (Load g.kinds))) × FinishedIn K ByCounts (ReachOf g.costs kit (sheet_of g.kinds g.swaps) sheet) g.bound T

  unfoldable pub tabled : Tabled
  tabled = finished_some K ByCounts (by_counts g.kinds) (loads_sheet g.sizes (sheet_of g.kinds g.swaps) sheet) (loads_even g.sizes (sheet_of g.kinds g.swaps) sheet) g.bound

  pub tabled_proper : (t : Tabled) → AllProper K t.0
  tabled_proper t =
      table_proper K (ReachOf g.costs kit (sheet_of g.kinds g.swaps) sheet) (reaches_alike g.costs kit (sheet_of g.kinds g.swaps) sheet) (suc g.bound) t.0 t.1.rows

  -- ---- what is asked

  unfoldable pub completes? : (t : Tabled) (room : ℕ) (o : Answer × List ℕ) → Option (Completes g (plain_table t.0) room o)
  completes? t room o = go (dec_le (length (plain_table t.0)) room)
    where
      go : Dec (length (plain_table t.0) ≤ room) → Option (Completes g (plain_table t.0) room o)
      go (yes l) = with_it (λ e. inr (l, e)) (outcome? o (rows (length (plain_table t.0)), filled (room * (2 * g.kinds)) (plain_table t.0)))
      go (no n) = with_it (λ e. inl (n, e)) (outcome? o (refused (number_of NoRoom), zeros (room * (2 * g.kinds))))

  unfoldable pub settles? : (t : Tabled) (x : List ℕ) (o : Answer × List ℕ) → Option (SettlesBy g (plain_table t.0) x o)
  settles? t x o = go (ℕ_discrete (length x) g.kinds) (dec_le (grade g.sizes x) g.bound)
    where
      at : (e : length x ≡ g.kinds) → Option ((nf K t.0 (x, e)).0 ≡ o.1) → Option (Settles (plain_table t.0) x o.1)
      at e = with_it (λ q. subst (Settles (plain_table t.0) x) q (settles_down g.kinds g.sizes kit.of_sizes kit.from_one g.costs (before_laws g.costs g.kinds) t.0 (tabled_proper t) (x, e)))

      go : Dec (length x ≡ g.kinds) → Dec (grade g.sizes x ≤ g.bound) → Option (SettlesBy g (plain_table t.0) x o)
      go (no d) l = none
      go (yes e) (no n) = with_it (λ q. inl (n, q)) (outcome? o (refused (number_of OverBound), x))
      go (yes e) (yes l) = with_it (λ p. inr (l, p)) (both? (answer? o.0 done) (at e (counts? (nf K t.0 (x, e)).0 o.1)))

  unfoldable pub says? : (t : Tabled) (a : Asked) (o : Answer × List ℕ) → Option (Says g (plain_table t.0) a o)
  says? t (complete room) o = completes? t room o
  says? t (settle x) o = settles? t x o

-- ---- a line, and all lines

unfoldable pub shown : (e : Example) → Option (Holds e)
shown e = go (accepted? e.given)
  where
    told : (ok : Accepted e.given) (t : Tabled e.given ok) → Option (Holds e)
    told ok t =
        with_it (λ s. record {
          accepted = ok;
          table = plain_table t.0;
          finished = sheet_finished e.given.costs (kit e.given ok) (sheet_of e.given.kinds e.given.swaps) (sheet e.given ok) e.given.bound t.0 t.1;
          says = s;
        }) (says? e.given ok t e.asked (e.answer, e.after))

    go : Option (Accepted e.given) → Option (Holds e)
    go none = none
    go (some ok) = told ok (tabled e.given ok)

unfoldable pub all_pass : List Example → Bool
all_pass [] = true
all_pass (e ∷ l) = cond (there? (shown e)) (all_pass l) false

pub all_hold : (l : List Example) → all_pass l ≡ true → All Holds l
unfolding all_pass
all_hold [] p = tt
all_hold (e ∷ l) p =
    let q = both_true (there? (shown e)) (all_pass l) p in
    (taken (shown e) q.0, all_hold l q.1)
