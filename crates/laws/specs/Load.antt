-- Laws of loads, each proved once over the length.
-- Assumes nothing.
use Rattle.std.specs.Prelude.{ℕ, ◌-◌, zero, suc, ◌+◌, ◌*◌, ◌≤◌, ◌<◌, max, ◌≡◌, refl, ◌⊎◌, ◌↔◌, List, [], ◌∷◌, length, set, get_or}
use Rattle.std.proofs.Common.{sym, ap, ap₂, subst, ◌∙◌, inl, inr, ⊎_elim, arith, add_comm, add_assoc, mul-add, mul-le-mul_right}
use mathlib.Core.List.Memᴰ
use Rattle.std.proofs.Math.Decide.{dec_le}
use Rattle.std.proofs.Math.Nat.{max_comm, le-max_left, max-le}
use Rattle.terms.specs.Load.{both, plus, less, zeros, Fits, grade}
use Rattle.terms.specs.Swaps.{◌∈◌}
use Rattle.terms.specs.Limits.{All}

-- the least load that holds both
abbrev pub join : List ℕ → List ℕ → List ℕ
join = both max

-- one part of kind i
abbrev pub unit : ℕ → ℕ → List ℕ
unit n i = set (zeros n) i 1

-- each is at most m; each is at least m
abbrev pub UpTo : ℕ → List ℕ → Type 0
UpTo m = All (λ x. x ≤ m)

abbrev pub From : ℕ → List ℕ → Type 0
From m = All (λ x. m ≤ x)

-- ---- laws of `both`

pub both_comm : (f : ℕ → ℕ → ℕ) → ((a b : ℕ) → f a b ≡ f b a) → (x y : List ℕ) → both f x y ≡ both f y x
both_comm f c [] [] = refl
both_comm f c [] (y ∷ ys) = refl
both_comm f c (x ∷ xs) [] = refl
both_comm f c (x ∷ xs) (y ∷ ys) = ap₂ ◌∷◌ (c x y) (both_comm f c xs ys)

pub both_assoc : (f : ℕ → ℕ → ℕ) → ((a b c : ℕ) → f (f a b) c ≡ f a (f b c)) → (x y z : List ℕ) → both f (both f x y) z ≡ both f x (both f y z)
both_assoc f c [] y z = refl
both_assoc f c (x ∷ xs) [] z = refl
both_assoc f c (x ∷ xs) (y ∷ ys) [] = refl
both_assoc f c (x ∷ xs) (y ∷ ys) (z ∷ zs) = ap₂ ◌∷◌ (c x y z) (both_assoc f c xs ys zs)

suc_inj : {a b : ℕ} → suc a ≡ suc b → a ≡ b
suc_inj e = omega arith

pub length_both : (f : ℕ → ℕ → ℕ) (x y : List ℕ) → length x ≡ length y → length (both f x y) ≡ length x
length_both f [] y e = refl
length_both f (x ∷ xs) [] e = sym e
length_both f (x ∷ xs) (y ∷ ys) e = ap suc (length_both f xs ys (suc_inj e))

-- ---- the sum

pub plus_comm : (x y : List ℕ) → plus x y ≡ plus y x
plus_comm = both_comm ◌+◌ add_comm

pub plus_assoc : (x y z : List ℕ) → plus (plus x y) z ≡ plus x (plus y z)
plus_assoc = both_assoc ◌+◌ add_assoc

pub plus_cancel : (u x y : List ℕ) → length x ≡ length u → length y ≡ length u → plus u x ≡ plus u y → x ≡ y
plus_cancel [] [] [] p q e = refl
plus_cancel [] [] (y ∷ ys) p q e = absurd (omega arith)
plus_cancel [] (x ∷ xs) y p q e = absurd (omega arith)
plus_cancel (u ∷ us) [] y p q e = absurd (omega arith)
plus_cancel (u ∷ us) (x ∷ xs) [] p q e = absurd (omega arith)
plus_cancel (u ∷ us) (x ∷ xs) (y ∷ ys) p q e =
    let head : u + x ≡ u + y = cc in
    let tail : plus us xs ≡ plus us ys = cc in
    ap₂ ◌∷◌ (omega arith) (plus_cancel us xs ys (suc_inj p) (suc_inj q) tail)

pub plus_zeros : (x : List ℕ) → plus x (zeros (length x)) ≡ x
plus_zeros [] = refl
plus_zeros (x ∷ xs) = ap₂ ◌∷◌ (omega arith) (plus_zeros xs)

-- ---- fits

-- h fits in x, or does not
unfoldable pub fits? : (h x : List ℕ) → Dec (Fits h x)
fits? [] [] = yes tt
fits? [] (x ∷ xs) = no (λ w. w)
fits? (h ∷ hs) [] = no (λ w. w)
fits? (h ∷ hs) (x ∷ xs) = go (dec_le h x) (fits? hs xs)
  where
    go : Dec (h ≤ x) → Dec (Fits hs xs) → Dec ((h ≤ x) × Fits hs xs)
    go (yes l) (yes w) = yes (l, w)
    go (yes l) (no n) = no (λ p. n p.1)
    go (no n) d = no (λ p. n p.0)

pub fits_length : (h x : List ℕ) → Fits h x → length x ≡ length h
fits_length [] [] w = refl
fits_length [] (x ∷ xs) w = absurd w
fits_length (h ∷ hs) [] w = absurd w
fits_length (h ∷ hs) (x ∷ xs) w = ap suc (fits_length hs xs w.1)

pub fits_trans : (x y z : List ℕ) → Fits x y → Fits y z → Fits x z
fits_trans [] [] [] p q = tt
fits_trans [] [] (z ∷ zs) p q = q
fits_trans [] (y ∷ ys) z p q = absurd p
fits_trans (x ∷ xs) [] z p q = absurd p
fits_trans (x ∷ xs) (y ∷ ys) [] p q = q
fits_trans (x ∷ xs) (y ∷ ys) (z ∷ zs) p q = (omega arith, fits_trans xs ys zs p.1 q.1)

-- what is left, put back, gives the load
pub plus_less : (h x : List ℕ) → Fits h x → plus h (less x h) ≡ x
plus_less [] [] w = refl
plus_less [] (x ∷ xs) w = absurd w
plus_less (h ∷ hs) [] w = absurd w
plus_less (h ∷ hs) (x ∷ xs) w = ap₂ ◌∷◌ (omega arith) (plus_less hs xs w.1)

pub less_plus : (h r : List ℕ) → length r ≡ length h → less (plus h r) h ≡ r
less_plus [] [] e = refl
less_plus [] (r ∷ rs) e = absurd (omega arith)
less_plus (h ∷ hs) [] e = absurd (omega arith)
less_plus (h ∷ hs) (r ∷ rs) e = ap₂ ◌∷◌ (omega arith) (less_plus hs rs (suc_inj e))

pub fits_plus : (h r : List ℕ) → length r ≡ length h → Fits h (plus h r)
fits_plus [] r e = tt
fits_plus (h ∷ hs) [] e = absurd (omega arith)
fits_plus (h ∷ hs) (r ∷ rs) e = (omega arith, fits_plus hs rs (suc_inj e))

pub length_less : (h x : List ℕ) → Fits h x → length (less x h) ≡ length h
length_less h x w = length_both ◌-◌ x h (fits_length h x w) ∙ fits_length h x w

-- h fits in x where some remainder makes x of it, and only there
pub fits_iff : (h x : List ℕ) → Fits h x ↔ ((r : List ℕ) × (length r ≡ length h) × (plus h r ≡ x))
fits_iff h x =
    (λ w. (less x h, length_less h x w, plus_less h x w), λ t. subst (λ (y : List ℕ). Fits h y) t.2 (fits_plus h t.0 t.1))

-- ---- the join is the least load that holds both

pub join_left : (x y : List ℕ) → length x ≡ length y → Fits x (join x y)
join_left [] y e = tt
join_left (x ∷ xs) [] e = absurd (omega arith)
join_left (x ∷ xs) (y ∷ ys) e = (le-max_left x y, join_left xs ys (suc_inj e))

pub join_comm : (x y : List ℕ) → join x y ≡ join y x
join_comm = both_comm max max_comm

pub join_right : (x y : List ℕ) → length x ≡ length y → Fits y (join x y)
join_right x y e = subst (λ (z : List ℕ). Fits y z) (join_comm y x) (join_left y x (sym e))

pub join_least : (x y z : List ℕ) → Fits x z → Fits y z → Fits (join x y) z
join_least [] y z p q = p
join_least (x ∷ xs) [] z p q = q
join_least (x ∷ xs) (y ∷ ys) [] p q = p
join_least (x ∷ xs) (y ∷ ys) (z ∷ zs) p q = (max-le p.0 q.0, join_least xs ys zs p.1 q.1)

-- ---- weights

pub grade_plus : (ws x y : List ℕ) → length x ≡ length y → grade ws (plus x y) ≡ grade ws x + grade ws y
grade_plus [] x y e = refl
grade_plus (w ∷ ws) [] [] e = refl
grade_plus (w ∷ ws) [] (y ∷ ys) e = absurd (omega arith)
grade_plus (w ∷ ws) (x ∷ xs) [] e = absurd (omega arith)
grade_plus (w ∷ ws) (x ∷ xs) (y ∷ ys) e = omega (arith, mul-add w x y, grade_plus ws xs ys (suc_inj e))

-- with weights of at least 1, each count is at most the whole, so a load of whole 0 has no part
pub from_le : (w x : ℕ) → 1 ≤ w → x ≤ w * x
from_le w x h = omega (arith, mul-le-mul_right x h)

pub counts_up_to : (ws x : List ℕ) (m : ℕ) → length x ≡ length ws → From 1 ws → grade ws x ≤ m → UpTo m x
counts_up_to ws [] m e f h = tt
counts_up_to [] (x ∷ xs) m e f h = absurd (omega arith)
counts_up_to (w ∷ ws) (x ∷ xs) m e f h =
    (omega (arith, from_le w x f.0), counts_up_to ws xs m (suc_inj e) f.1 (omega arith))

pub none_of_zero : (x : List ℕ) → UpTo 0 x → x ≡ zeros (length x)
none_of_zero [] u = refl
none_of_zero (x ∷ xs) u = ap₂ ◌∷◌ (omega arith) (none_of_zero xs u.1)

pub grade_pos : (ws x : List ℕ) → length x ≡ length ws → From 1 ws → (x ≡ zeros (length x) → ⊥) → 0 < grade ws x
grade_pos ws x e f n =
    ⊎_elim (λ h. absurd (n (none_of_zero x (counts_up_to ws x 0 e f h)))) (λ h. h) (zero_or (grade ws x))
  where
    zero_or : (m : ℕ) → (m ≤ 0) ⊎ (0 < m)
    zero_or zero = inl (omega arith)
    zero_or (suc m) = inr (omega arith)

-- ---- units

pub fits_zeros : (x : List ℕ) → Fits (zeros (length x)) x
fits_zeros [] = tt
fits_zeros (x ∷ xs) = (omega arith, fits_zeros xs)

-- a load has no part, or holds one part of some kind
pub zero_or_unit : (x : List ℕ) → (x ≡ zeros (length x)) ⊎ ((i : ℕ) × (i < length x) × Fits (unit (length x) i) x)
zero_or_unit [] = inl refl
zero_or_unit (suc x ∷ xs) = inr (0, omega arith, (omega arith, fits_zeros xs))
zero_or_unit (zero ∷ xs) =
    ⊎_elim (λ e. inl (ap (λ (l : List ℕ). 0 ∷ l) e)) (λ t. inr (suc t.0, omega arith, (omega arith, t.2))) (zero_or_unit xs)

-- ---- by the index

pub both_at : (f : ℕ → ℕ → ℕ) (x y : List ℕ) (i : ℕ) → i < length x → i < length y → get_or (both f x y) i 0 ≡ f (get_or x i 0) (get_or y i 0)
both_at f [] y i p q = absurd (omega arith)
both_at f (x ∷ xs) [] i p q = absurd (omega arith)
both_at f (x ∷ xs) (y ∷ ys) zero p q = refl
both_at f (x ∷ xs) (y ∷ ys) (suc i) p q = both_at f xs ys i (omega arith) (omega arith)

pub fits_at : (h x : List ℕ) (i : ℕ) → Fits h x → get_or h i 0 ≤ get_or x i 0
fits_at [] x i w = omega arith
fits_at (h ∷ hs) [] i w = absurd w
fits_at (h ∷ hs) (x ∷ xs) zero w = w.0
fits_at (h ∷ hs) (x ∷ xs) (suc i) w = fits_at hs xs i w.1

pub up_to_at : (m : ℕ) (x : List ℕ) (i : ℕ) → UpTo m x → get_or x i 0 ≤ m
up_to_at m [] i u = omega arith
up_to_at m (x ∷ xs) zero u = u.0
up_to_at m (x ∷ xs) (suc i) u = up_to_at m xs i u.1

pub all_map : {A : Type 0} {P Q : A → Type 0} → ((a : A) → P a → Q a) → (l : List A) → All P l → All Q l
all_map f [] u = tt
all_map f (x ∷ xs) u = (f x u.0, all_map f xs u.1)

-- what holds of each member
pub all_members : {A : Type 0} {P : A → Type 0} (l : List A) → ((a : A) → a ∈ l → P a) → All P l
all_members [] on = tt
all_members (a ∷ l) on = (on a (Memᴰ.head refl), all_members l (λ b m. on b (Memᴰ.tail m)))

pub up_to_more : (m k : ℕ) (x : List ℕ) → m ≤ k → UpTo m x → UpTo k x
up_to_more m k x l u = all_map (λ a h. omega arith) x u
