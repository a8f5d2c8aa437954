-- The cost order, and the laws by which everything else uses it (`OrderLaws`).
--     before_laws          all that is known of it. A change of the order changes `Before` and this one line
-- An order is put together of steps: `by_cost` puts a row of costs in front of an order that settles the ties, and keeps the laws.
-- Assumes nothing.
use Rattle.std.specs.Prelude.{ℕ, zero, suc, ◌+◌, ◌*◌, ◌-◌, ◌^◌, ◌≤◌, ◌<◌, ◌≡◌, refl, List, [], ◌∷◌, map, length, Option, Some, ℤ, pos, ◌+ℤ◌, ◌*ℤ◌, ◌<ℤ◌}
use Rattle.std.proofs.Common.{sym, ap₂, subst, ◌∙◌, inl, inr, arith, mul-add, mul_comm, pow-suc, mul-le-mul_left}
use Rattle.std.proofs.Math.Path.{ap}
use Rattle.std.specs.Ordering.{MatchOrdering, nat_cmp, ordering_then, partial_ordering_then, is_some_and, is_lt}
use Rattle.std.specs.Cmp.Lexicographic.{slice_cmp, slice_partial_cmp}
use Rattle.std.specs.declared.cmp.Ordering.{Ordering}
use Rattle.std.specs.declared.cmp.Ordering.TheVariants.{Less, Equal, Greater}
use Rattle.std.proofs.lemmas.Cmp.{ranked}
use Rattle.std.proofs.Math.Nat.{suc-mul, pow-zero, mul-le-mul_right}
use Rattle.terms.specs.Decides.{Decides}
use Rattle.terms.specs.Load.{plus, grade}
use Rattle.terms.specs.Order.{cost, Lex, ByCost, Before}
use Rattle.laws.specs.Decides.{decides_yes, decides_no}
use Rattle.laws.specs.Load.{grade_plus, UpTo}
use Rattle.laws.specs.Signed.{up, down, same, lt_reads, reads_lt, plus_reads, times_up, times_down}

-- ---- the laws of an order on loads of length n

pub data Which (A B C : Type 0) : Type 0 where
  first : A → Which A B C
  equal : B → Which A B C
  second : C → Which A B C

-- `rank m` counts the loads with counts up to m: a load that comes before another has the smaller rank. All ranks are below `room m`
pub record OrderLaws (n : ℕ) (R : List ℕ → List ℕ → Type 0) : Type 0 where
  pub irrefl : (x : List ℕ) → R x x → ⊥
  pub trans : (x y z : List ℕ) → R x y → R y z → R x z
  pub compare : (x y : List ℕ) → length x ≡ n → length y ≡ n → Which (R x y) (x ≡ y) (R y x)
  pub shift : (u x y : List ℕ) → length u ≡ n → length x ≡ n → length y ≡ n → R x y → R (plus u x) (plus u y)
  pub room : ℕ → ℕ
  pub rank : ℕ → List ℕ → ℕ
  pub rank_below : (m : ℕ) (x : List ℕ) → length x ≡ n → UpTo m x → rank m x < room m
  pub rank_less : (m : ℕ) (x y : List ℕ) → length x ≡ n → length y ≡ n → UpTo m x → UpTo m y → R x y → rank m x < rank m y

pub suc_inj : {a b : ℕ} → suc a ≡ suc b → a ≡ b
suc_inj e = omega arith

unfoldable pub compare_ℕ : (a b : ℕ) → Which (a < b) (a ≡ b) (b < a)
compare_ℕ zero zero = equal refl
compare_ℕ zero (suc b) = first (omega arith)
compare_ℕ (suc a) zero = second (omega arith)
compare_ℕ (suc a) (suc b) = up_one (compare_ℕ a b)
  where
    up_one : Which (a < b) (a ≡ b) (b < a) → Which (suc a < suc b) (suc a ≡ suc b) (suc b < suc a)
    up_one (first l) = first (omega arith)
    up_one (equal e) = equal (ap suc e)
    up_one (second l) = second (omega arith)

-- ---- by counts

pub lex_irrefl : (x : List ℕ) → Lex x x → ⊥
lex_irrefl [] h = h
lex_irrefl (x ∷ xs) (inl l) = omega arith
lex_irrefl (x ∷ xs) (inr p) = lex_irrefl xs p.1

pub lex_trans : (x y z : List ℕ) → Lex x y → Lex y z → Lex x z
lex_trans [] y z h k = h
lex_trans (x ∷ xs) [] z h k = absurd h
lex_trans (x ∷ xs) (y ∷ ys) [] h k = k
lex_trans (x ∷ xs) (y ∷ ys) (z ∷ zs) (inl l) (inl r) = inl (omega arith)
lex_trans (x ∷ xs) (y ∷ ys) (z ∷ zs) (inl l) (inr q) = inl (omega arith)
lex_trans (x ∷ xs) (y ∷ ys) (z ∷ zs) (inr p) (inl r) = inl (omega arith)
lex_trans (x ∷ xs) (y ∷ ys) (z ∷ zs) (inr p) (inr q) = inr (p.0 ∙ q.0, lex_trans xs ys zs p.1 q.1)

unfoldable pub lex_compare : (x y : List ℕ) → length x ≡ length y → Which (Lex x y) (x ≡ y) (Lex y x)
lex_compare [] [] e = equal refl
lex_compare [] (y ∷ ys) e = absurd (omega arith)
lex_compare (x ∷ xs) [] e = absurd (omega arith)
lex_compare (x ∷ xs) (y ∷ ys) e = go (compare_ℕ x y) (lex_compare xs ys (suc_inj e))
  where
    go : Which (x < y) (x ≡ y) (y < x) → Which (Lex xs ys) (xs ≡ ys) (Lex ys xs) → Which (Lex (x ∷ xs) (y ∷ ys)) (x ∷ xs ≡ y ∷ ys) (Lex (y ∷ ys) (x ∷ xs))
    go (first l) r = first (inl l)
    go (second l) r = second (inl l)
    go (equal p) (first l) = first (inr (p, l))
    go (equal p) (equal q) = equal (ap₂ ◌∷◌ p q)
    go (equal p) (second l) = second (inr (sym p, l))

-- what `cmp` answers of two loads of one length
pub lex_ordered : (x y : List ℕ) → length x ≡ length y → MatchOrdering (slice_cmp nat_cmp x y) (Lex x y) (x ≡ y) (Lex y x)
lex_ordered [] [] e = refl
lex_ordered [] (y ∷ ys) e = absurd (omega arith)
lex_ordered (x ∷ xs) [] e = absurd (omega arith)
lex_ordered (x ∷ xs) (y ∷ ys) e =
    here (nat_cmp x y) (ranked x y (nat_cmp x y) refl) (slice_cmp nat_cmp xs ys) (lex_ordered xs ys (suc_inj e))
  where
    rest : x ≡ y → (o : Ordering) → MatchOrdering o (Lex xs ys) (xs ≡ ys) (Lex ys xs) → MatchOrdering o (Lex (x ∷ xs) (y ∷ ys)) (x ∷ xs ≡ y ∷ ys) (Lex (y ∷ ys) (x ∷ xs))
    rest d Less h = inr (d, h)
    rest d Equal h = ap₂ ◌∷◌ d h
    rest d Greater h = inr (sym d, h)

    here : (o : Ordering) → MatchOrdering o (x < y) (x ≡ y) (y < x) → (r : Ordering) → MatchOrdering r (Lex xs ys) (xs ≡ ys) (Lex ys xs) → MatchOrdering (ordering_then o r) (Lex (x ∷ xs) (y ∷ ys)) (x ∷ xs ≡ y ∷ ys) (Lex (y ∷ ys) (x ∷ xs))
    here Less l r h = inl l
    here Equal d r h = rest d r h
    here Greater l r h = inl l

-- `partial_cmp` answers what `cmp` does
pub then_partial : (o r : Ordering) (p : Option Ordering) → p ≡ Some r → partial_ordering_then (Some o) p ≡ Some (ordering_then o r)
then_partial Less r p e = refl
then_partial Equal r p e = e
then_partial Greater r p e = refl

pub lex_partial : (x y : List ℕ) → slice_partial_cmp (λ a b. Some (nat_cmp a b)) x y ≡ Some (slice_cmp nat_cmp x y)
lex_partial [] [] = refl
lex_partial [] (y ∷ ys) = refl
lex_partial (x ∷ xs) [] = refl
lex_partial (x ∷ xs) (y ∷ ys) = then_partial (nat_cmp x y) (slice_cmp nat_cmp xs ys) _ (lex_partial xs ys)

-- `<` of two loads of one length decides `Lex`
pub lex_tested : (x y : List ℕ) → length x ≡ length y → Decides (Lex x y) (is_some_and is_lt (slice_partial_cmp (λ a b. Some (nat_cmp a b)) x y))
lex_tested x y e =
    subst (λ (o : Option Ordering). Decides (Lex x y) (is_some_and is_lt o)) (sym (lex_partial x y)) (go (slice_cmp nat_cmp x y) (lex_ordered x y e))
  where
    go : (o : Ordering) → MatchOrdering o (Lex x y) (x ≡ y) (Lex y x) → Decides (Lex x y) (is_lt o)
    go Less h = decides_yes h
    go Equal h = decides_no (λ l. lex_irrefl y (subst (λ (z : List ℕ). Lex z y) h l))
    go Greater h = decides_no (λ l. lex_irrefl x (lex_trans x y x l h))

pub lex_shift : (u x y : List ℕ) → length x ≡ length u → length y ≡ length u → Lex x y → Lex (plus u x) (plus u y)
lex_shift [] [] y e f h = h
lex_shift [] (x ∷ xs) y e f h = absurd (omega arith)
lex_shift (u ∷ us) [] y e f h = absurd (omega arith)
lex_shift (u ∷ us) (x ∷ xs) [] e f h = absurd (omega arith)
lex_shift (u ∷ us) (x ∷ xs) (y ∷ ys) e f (inl l) = inl (omega arith)
lex_shift (u ∷ us) (x ∷ xs) (y ∷ ys) e f (inr p) =
    inr (ap (λ (k : ℕ). u + k) p.0, lex_shift us xs ys (suc_inj e) (suc_inj f) p.1)

-- the counts as digits to the base m + 1
abbrev pub digits : ℕ → List ℕ → ℕ
digits m [] = 0
digits m (x ∷ xs) = x * suc m ^ length xs + digits m xs

pub digits_below : (m : ℕ) (x : List ℕ) → UpTo m x → digits m x < suc m ^ length x
digits_below m [] u = omega (arith, pow-zero (suc m))
digits_below m (x ∷ xs) u =
    omega (arith, digits_below m xs u.1, pow-suc (suc m) (length xs), mul_comm (suc m ^ length xs) (suc m), suc-mul m (suc m ^ length xs), mul-le-mul_right (suc m ^ length xs) u.0)

pub digits_less : (m : ℕ) (x y : List ℕ) → length x ≡ length y → UpTo m x → UpTo m y → Lex x y → digits m x < digits m y
digits_less m [] y e u v h = absurd h
digits_less m (x ∷ xs) [] e u v h = absurd h
digits_less m (x ∷ xs) (y ∷ ys) e u v (inl l) =
    omega (arith, digits_below m xs u.1, suc-mul x (suc m ^ length xs), mul-le-mul_right (suc m ^ length xs) l, ap (λ (k : ℕ). y * suc m ^ k) (suc_inj e))
digits_less m (x ∷ xs) (y ∷ ys) e u v (inr p) =
    omega (arith, digits_less m xs ys (suc_inj e) u.1 v.1 p.1, ap₂ (λ (a k : ℕ). a * suc m ^ k) p.0 (suc_inj e))

unfoldable pub lex_laws : (n : ℕ) → OrderLaws n Lex
lex_laws n =
    record {
      irrefl = lex_irrefl;
      trans = lex_trans;
      compare = λ x y e f. lex_compare x y (e ∙ sym f);
      shift = λ u x y d e f. lex_shift u x y (e ∙ sym d) (f ∙ sym d);
      room = λ m. suc m ^ n;
      rank = digits;
      rank_below = λ m x e u. subst (λ (k : ℕ). digits m x < suc m ^ k) e (digits_below m x u);
      rank_less = λ m x y e f u v. digits_less m x y (e ∙ sym f) u v;
    }

-- ---- by the cost first

-- the cost's two parts, by which `omega` reads it
pub cost_reads : (cs : List ℤ) (x : List ℕ) → up (cost cs x) + grade (map down cs) x ≡ down (cost cs x) + grade (map up cs) x
cost_reads [] x = refl
cost_reads (c ∷ cs) [] = refl
cost_reads (c ∷ cs) (x ∷ xs) =
    omega (arith, plus_reads (pos x *ℤ c) (cost cs xs), times_up x c, times_down x c, cost_reads cs xs)

-- of measures that are no numbers below 0 it is the grade
pub cost_grade : (ws x : List ℕ) → cost (map pos ws) x ≡ pos (grade ws x)
cost_grade [] x = refl
cost_grade (w ∷ ws) [] = refl
cost_grade (w ∷ ws) (x ∷ xs) =
    ap (λ (z : ℤ). pos (x * w) +ℤ z) (cost_grade ws xs) ∙ ap (λ (k : ℕ). pos (k + grade ws xs)) (mul_comm x w)

abbrev pub sum : List ℕ → ℕ
sum [] = 0
sum (w ∷ ws) = w + sum ws

pub grade_up_to : (m : ℕ) (ws x : List ℕ) → UpTo m x → grade ws x ≤ m * sum ws
grade_up_to m [] x u = omega arith
grade_up_to m (w ∷ ws) [] u = omega arith
grade_up_to m (w ∷ ws) (x ∷ xs) u =
    omega (arith, grade_up_to m ws xs u.1, mul-add m w (sum ws), mul-le-mul_left w u.0, mul_comm m w)

module _ (cs : List ℤ) where
  -- the cost from the least on, with counts up to m
  abbrev pub level : ℕ → List ℕ → ℕ
  level m x = grade (map up cs) x + (m * sum (map down cs) - grade (map down cs) x)

  abbrev pub levels : ℕ → ℕ
  levels m = m * sum (map up cs) + m * sum (map down cs)

  pub level_up_to : (m : ℕ) (x : List ℕ) → UpTo m x → level m x ≤ levels m
  level_up_to m x u = omega (arith, grade_up_to m (map up cs) x u)

  pub level_less : (m : ℕ) (x y : List ℕ) → UpTo m x → UpTo m y → cost cs x <ℤ cost cs y → level m x < level m y
  level_less m x y u v h =
      omega (arith, lt_reads (cost cs x) (cost cs y) h, cost_reads cs x, cost_reads cs y, grade_up_to m (map down cs) x u, grade_up_to m (map down cs) y v)

  pub level_same : (m : ℕ) (x y : List ℕ) → UpTo m x → UpTo m y → cost cs x ≡ cost cs y → level m x ≡ level m y
  level_same m x y u v e =
      omega (arith, ap up e, ap down e, cost_reads cs x, cost_reads cs y, grade_up_to m (map down cs) x u, grade_up_to m (map down cs) y v)

  pub cost_irrefl : (x : List ℕ) → cost cs x <ℤ cost cs x → ⊥
  cost_irrefl x h = omega (arith, lt_reads (cost cs x) (cost cs x) h)

  pub cost_trans : (x y z : List ℕ) → cost cs x <ℤ cost cs y → cost cs y <ℤ cost cs z → cost cs x <ℤ cost cs z
  cost_trans x y z h k =
      reads_lt (cost cs x) (cost cs z) (omega (arith, lt_reads (cost cs x) (cost cs y) h, lt_reads (cost cs y) (cost cs z) k))

  unfoldable pub compare_cost : (x y : List ℕ) → Which (cost cs x <ℤ cost cs y) (cost cs x ≡ cost cs y) (cost cs y <ℤ cost cs x)
  compare_cost x y = go (compare_ℕ (up (cost cs x) + down (cost cs y)) (up (cost cs y) + down (cost cs x)))
    where
      go : Which (up (cost cs x) + down (cost cs y) < up (cost cs y) + down (cost cs x)) (up (cost cs x) + down (cost cs y) ≡ up (cost cs y) + down (cost cs x)) (up (cost cs y) + down (cost cs x) < up (cost cs x) + down (cost cs y)) → Which (cost cs x <ℤ cost cs y) (cost cs x ≡ cost cs y) (cost cs y <ℤ cost cs x)
      go (first l) = first (reads_lt (cost cs x) (cost cs y) l)
      go (equal e) = equal (same (cost cs x) (cost cs y) e)
      go (second l) = second (reads_lt (cost cs y) (cost cs x) l)

  -- the cost of a sum is the sum of the costs
  pub cost_plus : (x y : List ℕ) → length x ≡ length y → cost cs (plus x y) ≡ cost cs x +ℤ cost cs y
  cost_plus x y e =
      same (cost cs (plus x y)) (cost cs x +ℤ cost cs y)
      (omega (arith, cost_reads cs (plus x y), cost_reads cs x, cost_reads cs y, plus_reads (cost cs x) (cost cs y), grade_plus (map up cs) x y e, grade_plus (map down cs) x y e))

  pub cost_shift : (u x y : List ℕ) → length u ≡ length x → length u ≡ length y → cost cs x <ℤ cost cs y → cost cs (plus u x) <ℤ cost cs (plus u y)
  cost_shift u x y e f h =
      reads_lt (cost cs (plus u x)) (cost cs (plus u y))
      (omega (arith, lt_reads (cost cs x) (cost cs y) h, cost_reads cs (plus u x), cost_reads cs (plus u y), cost_reads cs x, cost_reads cs y, grade_plus (map up cs) u x e, grade_plus (map down cs) u x e, grade_plus (map up cs) u y f, grade_plus (map down cs) u y f))

  pub cost_shift_same : (u x y : List ℕ) → length u ≡ length x → length u ≡ length y → cost cs x ≡ cost cs y → cost cs (plus u x) ≡ cost cs (plus u y)
  cost_shift_same u x y e f h = cost_plus u x e ∙ ap (λ (z : ℤ). cost cs u +ℤ z) h ∙ sym (cost_plus u y f)

  module _ (n : ℕ) (R : List ℕ → List ℕ → Type 0) (laws : OrderLaws n R) where
    pub by_irrefl : (x : List ℕ) → ByCost cs R x x → ⊥
    by_irrefl x (inl l) = cost_irrefl x l
    by_irrefl x (inr p) = laws.irrefl x p.1

    pub by_trans : (x y z : List ℕ) → ByCost cs R x y → ByCost cs R y z → ByCost cs R x z
    by_trans x y z (inl l) (inl r) = inl (cost_trans x y z l r)
    by_trans x y z (inl l) (inr q) = inl (subst (λ (k : ℤ). cost cs x <ℤ k) q.0 l)
    by_trans x y z (inr p) (inl r) = inl (subst (λ (k : ℤ). k <ℤ cost cs z) (sym p.0) r)
    by_trans x y z (inr p) (inr q) = inr (p.0 ∙ q.0, laws.trans x y z p.1 q.1)

    unfoldable pub by_compare : (x y : List ℕ) → length x ≡ n → length y ≡ n → Which (ByCost cs R x y) (x ≡ y) (ByCost cs R y x)
    by_compare x y e f = go (compare_cost x y) (laws.compare x y e f)
      where
        go : Which (cost cs x <ℤ cost cs y) (cost cs x ≡ cost cs y) (cost cs y <ℤ cost cs x) → Which (R x y) (x ≡ y) (R y x) → Which (ByCost cs R x y) (x ≡ y) (ByCost cs R y x)
        go (first l) r = first (inl l)
        go (second l) r = second (inl l)
        go (equal p) (first l) = first (inr (p, l))
        go (equal p) (equal q) = equal q
        go (equal p) (second l) = second (inr (sym p, l))

    pub by_shift : (u x y : List ℕ) → length u ≡ n → length x ≡ n → length y ≡ n → ByCost cs R x y → ByCost cs R (plus u x) (plus u y)
    by_shift u x y d e f (inl l) = inl (cost_shift u x y (d ∙ sym e) (d ∙ sym f) l)
    by_shift u x y d e f (inr p) =
        inr (cost_shift_same u x y (d ∙ sym e) (d ∙ sym f) p.0, laws.shift u x y d e f p.1)

    unfoldable pub by_room : ℕ → ℕ
    by_room m = suc (levels m) * laws.room m

    unfoldable pub by_rank : ℕ → List ℕ → ℕ
    by_rank m x = level m x * laws.room m + laws.rank m x

    pub by_rank_below : (m : ℕ) (x : List ℕ) → length x ≡ n → UpTo m x → by_rank m x < by_room m
    unfolding by_rank by_room
    by_rank_below m x e u =
        omega (arith, suc-mul (levels m) (laws.room m), mul-le-mul_right (laws.room m) (level_up_to m x u), laws.rank_below m x e u)

    pub by_rank_less : (m : ℕ) (x y : List ℕ) → length x ≡ n → length y ≡ n → UpTo m x → UpTo m y → ByCost cs R x y → by_rank m x < by_rank m y
    unfolding by_rank
    by_rank_less m x y e f u v (inl l) =
        omega (arith, suc-mul (level m x) (laws.room m), mul-le-mul_right (laws.room m) (level_less m x y u v l), laws.rank_below m x e u)
    by_rank_less m x y e f u v (inr p) =
        omega (arith, ap (λ (k : ℕ). k * laws.room m) (level_same m x y u v p.0), laws.rank_less m x y e f u v p.1)

    unfoldable pub by_cost : OrderLaws n (ByCost cs R)
    by_cost =
        record {
          irrefl = by_irrefl;
          trans = by_trans;
          compare = by_compare;
          shift = by_shift;
          room = by_room;
          rank = by_rank;
          rank_below = by_rank_below;
          rank_less = by_rank_less;
        }

-- ---- the cost order

unfoldable pub before_laws : (cs : List ℤ) (n : ℕ) → OrderLaws n (Before cs)
before_laws cs n = by_cost cs n Lex (lex_laws n)

-- x comes before y, or does not
unfoldable pub before? : (cs : List ℤ) (n : ℕ) (x y : List ℕ) → length x ≡ n → length y ≡ n → Dec (Before cs x y)
before? cs n x y e f = go ((before_laws cs n).compare x y e f)
  where
    go : Which (Before cs x y) (x ≡ y) (Before cs y x) → Dec (Before cs x y)
    go (first b) = yes b
    go (equal q) = no (λ b. (before_laws cs n).irrefl y (subst (λ (l : List ℕ). Before cs l y) q b))
    go (second b) = no (λ k. (before_laws cs n).irrefl x ((before_laws cs n).trans x y x k b))
