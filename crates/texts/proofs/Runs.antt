-- Where a field ends, and what its digits are worth as the loop goes along them. Assumes nothing.
use Rattle.std.proofs.Common.{◌≡◌, ℕ, suc, ◌+◌, ◌-◌, ◌*◌, min, ◌≤◌, ◌<◌, List, [], ◌∷◌, Bool, true, false, cond, ◌&&◌, length, get_or, take, drop, refl, ap, sym, add-one, drop-cons, Option, Some, None, arith, drop_of_length-le, length-drop, take_all, ◌∙◌}
use Rattle.std.specs.List.{position_from, slice_range}
use Rattle.texts.specs.declared.Num.{Num}
use Rattle.texts.specs.Number.{cap, is_digit, ends_field, digits, plain, value_after, piece, closed, ended, ending, more, run_from, number_at}

-- ## Where a field ends

-- a text has its first tab or line feed so far from its start, which is the place i of another text
Stops : ℕ → Bool → List ℕ → List ℕ → Option ℕ → Type 0
Stops i c p l None = c ≡ false
Stops i c p l (Some n) = (c ≡ true) × (i ≤ n) × (take (n - i) l ≡ p)

stops_cons : (t : Bool) (i b : ℕ) (l : List ℕ) (c : Bool) (p : List ℕ) (o : Option ℕ) → Stops (i + 1) c p l o → Stops i (cond t true c) (cond t [] (b ∷ p)) (b ∷ l) (cond t (Some i) o)
unfolding Stops
stops_cons true i b l c p o h = let e : i - i ≡ 0 = omega arith in (refl, omega arith, rw e)
stops_cons false i b l c p None h = h
stops_cons false i b l c p (Some n) h = let e : n - i ≡ suc (n - (i + 1)) = omega (arith, h.1) in (h.0, omega (arith, h.1), rw e (ap (λ (q : List ℕ). b ∷ q) h.2))

stops : (i : ℕ) (l : List ℕ) → Stops i (closed l) (piece l) l (position_from ends_field i l)
unfolding Stops closed piece
stops i [] = refl
stops i (b ∷ l) = stops_cons (ends_field b) i b l (closed l) (piece l) (position_from ends_field (i + 1) l) (stops (i + 1) l)

pub past_end : (s : List ℕ) (at : ℕ) → length s ≤ at → None ≡ ended (drop at s)
unfolding closed
past_end s at h = rw (drop_of_length-le s h)

pub rest_is : (s : List ℕ) (at : ℕ) → slice_range s at (length s) ≡ drop at s
rest_is s at = take_all (length s - at) (drop at s) (omega (arith, length-drop at s))

open_field : (l : List ℕ) (o : Option ℕ) → o ≡ None → Stops 0 (closed l) (piece l) l o → None ≡ ended l
unfolding Stops
open_field l None e h = rw h
open_field l (Some n) e h = absurd (let z : ◌≡◌ {A = ℕ} 0 1 = cc in omega arith)

closed_field : (l : List ℕ) (n : ℕ) (o : Option ℕ) → o ≡ Some n → Stops 0 (closed l) (piece l) l o → Some (take n l) ≡ ended l
unfolding Stops
closed_field l n None e h = absurd (let z : ◌≡◌ {A = ℕ} 0 1 = cc in omega arith)
closed_field l n (Some k) e h =
    let z : k ≡ n = cc in
    let y : k - 0 ≡ n = omega (arith, z) in
    rw (h.0, sym h.2, y)

-- the rest of a text from a place on
module _ (s rest : List ℕ) (at : ℕ) (e : rest ≡ slice_range s at (length s)) where
  pub no_end : position_from ends_field 0 rest ≡ None → None ≡ ended (drop at s)
  no_end f = open_field rest _ f (stops 0 rest) ∙ ap ended (e ∙ rest_is s at)

  pub an_end : (n : ℕ) → position_from ends_field 0 rest ≡ Some n → Some (take n rest) ≡ ended (drop at s)
  an_end n f = closed_field rest n _ f (stops 0 rest) ∙ ap ended (e ∙ rest_is s at)

-- ## The turns of the loop

module _ (v at i : ℕ) (s : List ℕ) (h : i < length s) where
  pub run_ends : ends_field (get_or s i 0) ≡ true → run_from v (at + i) (drop i s) ≡ ending (at + i) v
  unfolding run_from
  run_ends e = rw (drop-cons s i 0 h, e)

  pub run_bad : ends_field (get_or s i 0) ≡ false → is_digit (get_or s i 0) ≡ false → run_from v (at + i) (drop i s) ≡ None
  unfolding run_from
  run_bad e d = rw (drop-cons s i 0 h, e, d)

  pub run_on : ends_field (get_or s i 0) ≡ false → is_digit (get_or s i 0) ≡ true → run_from v (at + i) (drop i s) ≡ run_from (more v (get_or s i 0)) (at + (i + 1)) (drop (i + 1) s)
  unfolding run_from
  run_on e d = let m : suc (at + i) ≡ at + suc i = omega arith in rw (add-one i, drop-cons s i 0 h, e, d) (ap (λ (k : ℕ). run_from (more v (get_or s i 0)) k (drop (suc i) s)) m)

pub run_cut : (v at i : ℕ) (s : List ℕ) → length s ≤ i → run_from v at (drop i s) ≡ None
unfolding run_from
run_cut v at i s h = rw (drop_of_length-le s h)

pub run_past : (s : List ℕ) (at : ℕ) → length s ≤ at → None ≡ run_from 0 at (drop at s)
run_past s at h = sym (run_cut 0 at at s h)

-- ## What the run is

-- what is above cap stays there
sat : (x y : ℕ) (l : List ℕ) → min cap x ≡ min cap y → min cap (value_after x l) ≡ min cap (value_after y l)
unfolding value_after
sat x y [] e = e
sat x y (b ∷ l) e = sat (x * 10 + (b - 48)) (y * 10 + (b - 48)) l (omega arith)

-- a run: the end is there, all before it are digits, and the value and the end's place
said : Bool → Bool → ℕ → ℕ → Option Num
said c d v next = cond c (cond d (ending next v) None) None

same_end : (v w x y : ℕ) → v ≡ w → x ≡ y → ending x v ≡ ending y w
same_end v w x y e f = cc

said_of : (c d : Bool) (v w x y : ℕ) → v ≡ w → x ≡ y → said c d v x ≡ said c d w y
said_of c d v w x y e f = cc

run_cons : (t u : Bool) (v i b : ℕ) (l : List ℕ) → v ≤ cap
    → run_from (more v b) (suc i) l ≡ said (closed l) (digits (piece l)) (min cap (value_after (more v b) (piece l))) (suc i + length (piece l))
    → is_digit b ≡ u
    → cond t (ending i v) (cond u (run_from (more v b) (suc i) l) None)
    ≡ said (cond t true (closed l)) (digits (cond t [] (b ∷ piece l))) (min cap (value_after v (cond t [] (b ∷ piece l)))) (i + length (cond t [] (b ∷ piece l)))
unfolding said digits value_after
run_cons true u v i b l h e w = same_end v (min cap v) i (i + 0) (omega arith) (omega arith)
run_cons false true v i b l h e w =
    rw w (e ∙ said_of (closed l) (digits (piece l)) _ _ _ _ (sat (more v b) (v * 10 + (b - 48)) (piece l) (omega arith)) (omega arith))
run_cons false false v i b l h e w = rw w (never (closed l))
  where
    never : (c : Bool) → None ≡ cond {A = Option Num} c None None
    never true = refl
    never false = refl

run_is : (v i : ℕ) (l : List ℕ) → v ≤ cap
    → run_from v i l ≡ said (closed l) (digits (piece l)) (min cap (value_after v (piece l))) (i + length (piece l))
unfolding run_from closed piece said
run_is v i [] h = refl
run_is v i (b ∷ l) h = run_cons (ends_field b) (is_digit b) v i b l h (run_is (more v b) (suc i) l (omega arith)) refl

said_none : (c d : Bool) (v next : ℕ) → said c d v next ≡ None → (c && d) ≡ false
unfolding said
said_none true true v next e = absurd (let z : ◌≡◌ {A = ℕ} 0 1 = cc in omega arith)
said_none true false v next e = refl
said_none false d v next e = refl

said_some : (c d : Bool) (v next : ℕ) (n : Num) → said c d v next ≡ Some n → (c ≡ true) × (d ≡ true) × (v ≡ n.value) × (next ≡ n.next)
unfolding said
said_some true true v next n e = (refl, refl, cc, cc)
said_some true false v next n e = absurd (let z : ◌≡◌ {A = ℕ} 0 1 = cc in omega arith)
said_some false d v next n e = absurd (let z : ◌≡◌ {A = ℕ} 0 1 = cc in omega arith)

length_of : (t : Bool) (b k : ℕ) (l : List ℕ) → length l ≤ k → length (cond t [] (b ∷ l)) ≤ suc k
length_of true b k l h = omega arith
length_of false b k l h = omega arith

-- a piece is no longer than its text
pub piece_length : (l : List ℕ) → length (piece l) ≤ length l
unfolding piece
piece_length [] = omega arith
piece_length (b ∷ l) = length_of (ends_field b) b (length l) (piece l) (piece_length l)

-- a field that ends is shorter than its text
pub closed_short : (l : List ℕ) → closed l ≡ true → length (piece l) < length l
unfolding piece closed
closed_short [] c = cc
closed_short (b ∷ l) c = go (ends_field b) (closed_short l) c
  where
    go : (t : Bool) → (closed l ≡ true → length (piece l) < length l) → cond t true (closed l) ≡ true → length (cond {A = List ℕ} t [] (b ∷ piece l)) < suc (length l)
    go true h c = omega arith
    go false h c = let n = h c in omega (arith, n)

piece_first : (l : List ℕ) → take (length (piece l)) l ≡ piece l
unfolding piece
piece_first [] = refl
piece_first (b ∷ l) = go (ends_field b) (piece_first l)
  where
    go : (t : Bool) → take (length (piece l)) l ≡ piece l → take (length (cond {A = List ℕ} t [] (b ∷ piece l))) (b ∷ l) ≡ cond t [] (b ∷ piece l)
    go true e = refl
    go false e = ap (λ (p : List ℕ). b ∷ p) e

-- what `number` has of the run at a place of s
module _ (s : List ℕ) (at : ℕ) where
  abbrev l : List ℕ
  l = drop at s

  pub none_there : None ≡ run_from 0 at (drop at s) → None ≡ number_at s at
  none_there e = go (closed l) (digits (piece l)) refl refl (said_none (closed l) (digits (piece l)) _ _ (sym (run_is 0 at l (omega arith)) ∙ sym e))
    where
      go : (c d : Bool) → closed l ≡ c → digits (piece l) ≡ d → (c && d) ≡ false → None ≡ number_at s at
      go true true f g h = cc
      go true false f g h = rw (f, g)
      go false d f g h = rw f

  module _ (n : Num) (e : Some n ≡ run_from 0 at (drop at s)) where
    parts : (closed l ≡ true) × (digits (piece l) ≡ true) × (min cap (value_after 0 (piece l)) ≡ n.value) × (at + length (piece l) ≡ n.next)
    parts = said_some (closed l) (digits (piece l)) _ _ n (sym (run_is 0 at l (omega arith)) ∙ sym e)

    inside : n.next ≤ length s
    inside = go (piece_length l) (closed_short l parts.0)
      where
        go : length (piece l) ≤ length l → length (piece l) < length l → n.next ≤ length s
        go p q = let r = parts.3 in omega (arith, p, q, r, length-drop at s)

    pub starts_before : at ≤ n.next
    starts_before = let r = parts.3 in omega (arith, r)

    pub ends_within : n.next ≤ length s
    ends_within = inside

    part_is : slice_range s at n.next ≡ piece l
    part_is = let r : n.next - at ≡ length (piece l) = let q = parts.3 in omega (arith, q) in ap (λ (k : ℕ). take k (drop at s)) r ∙ piece_first l

    pub ill : plain (slice_range s at n.next) ≡ false → None ≡ number_at s at
    ill w = rw (parts.0, parts.1, sym (ap plain part_is) ∙ w)

    pub well : plain (slice_range s at n.next) ≡ true → Some n ≡ number_at s at
    well w = rw (parts.0, parts.1, sym (ap plain part_is) ∙ w, parts.2, parts.3)
