-- Which word a field is, by its length and its bytes; and what number it is, with a minus or without. Assumes nothing.
use Rattle.std.proofs.Common.{◌≡◌, ℕ, zero, suc, ◌+◌, min, ◌≤◌, ◌<◌, List, [], ◌∷◌, Bool, true, false, cond, not, ◌&&◌, eqb, length, get_or, take, drop, refl, ap, sym, ◌∙◌, add-one, drop-cons, drop_of_length-le, eqb-true, ne_eqb, Option, Some, None, option_map, arith}
use Rattle.std.proofs.Math.Option as maybe
use Rattle.texts.specs.declared.Num.{Num}
use Rattle.std.specs.List.{slice_range}
use Rattle.texts.specs.Number.{held, number_of, digits, ends_field, piece, closed, ended, number_at}
use Rattle.texts.proofs.Runs.{rest_is, closed_short}
use Rattle.lines.specs.declared.Word.{Word}
use Rattle.lines.specs.declared.Word.TheVariants.{Kit, Size, Cost, Swap, Load}
use Rattle.lines.specs.declared.Field.{Field}
use Rattle.lines.specs.declared.Field.TheVariants as field
use Rattle.lines.specs.declared.Field.TheVariants.{Number}
use Rattle.lines.specs.Fields.{same, kit_word, size_word, cost_word, swap_word, load_word, which_word, worded, numbered, lessened, signed, word_in, number_in, minus_in, field_is}

-- a field of three bytes, and one of four
abbrev pub of_three : ℕ → ℕ → ℕ → Option Word
of_three a b c = cond (eqb a 107) (cond (eqb b 105) (cond (eqb c 116) (Some Kit) None) None) None

abbrev pub of_four : ℕ → ℕ → ℕ → ℕ → Option Word
of_four a b c d =
    cond (eqb a 115) (cond (eqb b 105) (cond (eqb c 122) (cond (eqb d 101) (Some Size) None) None) (cond (eqb b 119) (cond (eqb c 97) (cond (eqb d 112) (Some Swap) None) None) None))
    (cond (eqb a 99) (cond (eqb b 111) (cond (eqb c 115) (cond (eqb d 116) (Some Cost) None) None) None)
    (cond (eqb a 108) (cond (eqb b 111) (cond (eqb c 97) (cond (eqb d 100) (Some Load) None) None) None) None))

-- a field of so many bytes, by the first four
abbrev pub by_bytes : ℕ → ℕ → ℕ → ℕ → ℕ → Option Word
by_bytes n a b c d = cond (eqb n 3) (of_three a b c) (cond (eqb n 4) (of_four a b c d) None)

other_bytes : (p w : List ℕ) → (length p ≡ length w → ⊥) → same p w ≡ false
unfolding same
other_bytes [] [] n = absurd (n refl)
other_bytes [] (y ∷ ys) n = refl
other_bytes (x ∷ xs) [] n = refl
other_bytes (x ∷ xs) (y ∷ ys) n = rw (other_bytes xs ys (λ e. n (ap suc e))) (go (eqb x y))
  where
    go : (t : Bool) → cond t false false ≡ false
    go true = refl
    go false = refl

other_read : (p : List ℕ) → (length p ≡ 3 → ⊥) → (length p ≡ 4 → ⊥) → which_word p ≡ by_bytes (length p) (get_or p 0 0) (get_or p 1 0) (get_or p 2 0) (get_or p 3 0)
unfolding which_word
other_read p n m = rw (ne_eqb _ _ n, ne_eqb _ _ m, other_bytes p kit_word n, other_bytes p size_word m, other_bytes p cost_word m, other_bytes p swap_word m, other_bytes p load_word m)

pub word_read : (p : List ℕ) → which_word p ≡ by_bytes (length p) (get_or p 0 0) (get_or p 1 0) (get_or p 2 0) (get_or p 3 0)
unfolding which_word same
word_read [] = refl
word_read (a ∷ []) = grind arith
word_read (a ∷ (b ∷ [])) = grind arith
word_read (a ∷ (b ∷ (c ∷ []))) = go (eqb a 107) refl
  where
    go : (t : Bool) → eqb a 107 ≡ t → which_word (a ∷ (b ∷ (c ∷ []))) ≡ of_three a b c
    go true e = let h : a ≡ 107 = eqb-true a 107 e in rw h (grind arith)
    go false e = rw e (grind arith)
word_read (a ∷ (b ∷ (c ∷ (d ∷ [])))) = go (eqb a 115) (eqb a 99) (eqb a 108) refl refl refl
  where
    go : (t u v : Bool) → eqb a 115 ≡ t → eqb a 99 ≡ u → eqb a 108 ≡ v → which_word (a ∷ (b ∷ (c ∷ (d ∷ [])))) ≡ of_four a b c d
    go true u v e f g = let h : a ≡ 115 = eqb-true a 115 e in rw h (grind arith)
    go false true v e f g = let h : a ≡ 99 = eqb-true a 99 f in rw h (grind arith)
    go false false true e f g = let h : a ≡ 108 = eqb-true a 108 g in rw h (grind arith)
    go false false false e f g = rw (e, f, g) (grind arith)
word_read (a ∷ (b ∷ (c ∷ (d ∷ (e ∷ p))))) = other_read (a ∷ (b ∷ (c ∷ (d ∷ (e ∷ p))))) (λ h. omega (arith, h)) (λ h. omega (arith, h))

pub no_word : (p : List ℕ) → length p ≡ 4 → (get_or p 0 0 ≡ 115 → ⊥) → (get_or p 0 0 ≡ 99 → ⊥) → (get_or p 0 0 ≡ 108 → ⊥) → None ≡ which_word p
no_word p n s c l = rw (word_read p, n, ne_eqb _ _ s, ne_eqb _ _ c, ne_eqb _ _ l)

-- ## What `field_is` says

-- no letter of the word ends a field
letters : List ℕ → Bool
letters [] = true
letters (w ∷ ws) = not (ends_field w) && letters ws

and_false : (c : Bool) → false ≡ (c && false)
and_false true = refl
and_false false = refl

and_both : (p q : Bool) → (p && q) ≡ true → (p ≡ true) × (q ≡ true)
and_both true q e = (refl, e)
and_both false q e = (cc, cc)

not_end : (t : Bool) → not t ≡ true → t ≡ false
not_end true e = sym e
not_end false e = refl

-- where the word is at its end
field_is_end : (t : Bool) (b : ℕ) (l : List ℕ) → t ≡ (cond t true (closed l) && same (cond t [] (b ∷ piece l)) [])
unfolding same
field_is_end true b l = refl
field_is_end false b l = and_false (closed l)

-- a byte more of both
is_cons : (t u : Bool) (b w : ℕ) (l ws : List ℕ) → eqb b w ≡ u → (u ≡ true → t ≡ false) → field_is ws l ≡ (closed l && same (piece l) ws)
    → cond u (field_is ws l) false ≡ (cond t true (closed l) && same (cond t [] (b ∷ piece l)) (w ∷ ws))
unfolding same
is_cons true true b w l ws e n h = absurd (let z : true ≡ false = n refl in let y : ◌≡◌ {A = ℕ} 0 1 = ap (λ (t : Bool). cond t 0 1) z in omega arith)
is_cons true false b w l ws e n h = refl
is_cons false true b w l ws e n h = rw e h
is_cons false false b w l ws e n h = rw e (and_false (closed l))

-- the field ends, and its bytes are the word
field_is_piece : (w l : List ℕ) → letters w ≡ true → field_is w l ≡ (closed l && same (piece l) w)
unfolding field_is closed piece letters
field_is_piece [] [] n = refl
field_is_piece [] (b ∷ l) n = field_is_end (ends_field b) b l
field_is_piece (w ∷ ws) [] n = refl
field_is_piece (w ∷ ws) (b ∷ l) n =
    let m = and_both (not (ends_field w)) (letters ws) n in
    is_cons (ends_field b) (eqb b w) b w l ws refl (λ u. ap ends_field (eqb-true b w u) ∙ not_end (ends_field w) m.0) (field_is_piece ws l m.1)

-- ## A word by the first five bytes of what stands there

-- a field that ends among the first k bytes
near_same : (k : ℕ) (l : List ℕ) → closed (take k l) ≡ true → (closed l ≡ true) × (piece l ≡ piece (take k l))
unfolding closed piece
near_same zero l e = cc
near_same (suc k) [] e = cc
near_same (suc k) (b ∷ l) e = go (ends_field b) (near_same k l) e
  where
    go : (t : Bool) → (closed (take k l) ≡ true → (closed l ≡ true) × (piece l ≡ piece (take k l))) → cond t true (closed (take k l)) ≡ true
        → (cond t true (closed l) ≡ true) × (cond t [] (b ∷ piece l) ≡ cond t [] (b ∷ piece (take k l)))
    go true h e = (refl, refl)
    go false h e = let n = h e in (n.0, ap (λ (p : List ℕ). b ∷ p) n.1)

-- a field that ends after them
near_long : (k : ℕ) (l : List ℕ) → closed (take k l) ≡ false → closed l ≡ true → k ≤ length (piece l)
unfolding closed piece
near_long zero l e c = omega arith
near_long (suc k) [] e c = cc
near_long (suc k) (b ∷ l) e c = go (ends_field b) (near_long k l) e c
  where
    go : (t : Bool) → (closed (take k l) ≡ false → closed l ≡ true → k ≤ length (piece l)) → cond t true (closed (take k l)) ≡ false → cond t true (closed l) ≡ true → suc k ≤ length (cond {A = List ℕ} t [] (b ∷ piece l))
    go true h e c = cc
    go false h e c = let n = h e c in omega (arith, n)

long_word : (p : List ℕ) → 5 ≤ length p → which_word p ≡ None
long_word p h = rw (word_read p, ne_eqb (length p) 3 (λ e. omega (arith, e)), ne_eqb (length p) 4 (λ e. omega (arith, e)))

not_ended : (c : Bool) (p : List ℕ) → None ≡ cond c (Some p) None → c ≡ false
not_ended true p e = absurd (let z : ◌≡◌ {A = ℕ} 0 1 = cc in omega arith)
not_ended false p e = refl

is_ended : (c : Bool) (p f : List ℕ) → Some f ≡ cond c (Some p) None → (c ≡ true) × (f ≡ p)
is_ended true p f e = (refl, cc)
is_ended false p f e = absurd (let z : ◌≡◌ {A = ℕ} 0 1 = cc in omega arith)

-- the first bytes of the rest of a text from a place on, five or all
module _ (s rest : List ℕ) (at k : ℕ) (e : rest ≡ slice_range s at (length s)) (m : k ≡ min (length rest) 5) where
  rest_word : word_in rest at ≡ word_in (drop at s) at
  rest_word = ap (λ (l : List ℕ). word_in l at) (e ∙ rest_is s at)

  near_word : (f : List ℕ) → Some f ≡ ended (take k rest) → worded (at + length f) (which_word f) ≡ word_in rest at
  near_word f h =
      let o = is_ended (closed (take k rest)) (piece (take k rest)) f h in
      let n = near_same k rest o.0 in
      rw (n.0, n.1, o.1)

  pub no_near : None ≡ ended (take k rest) → None ≡ word_in (drop at s) at
  no_near h = go (closed rest) refl ∙ rest_word
    where
      far : closed rest ≡ true → 5 ≤ length (piece rest)
      far c =
          let l = near_long k rest (not_ended (closed (take k rest)) (piece (take k rest)) h) c in
          let n = closed_short rest c in
          omega (arith, l, n, m)

      go : (c : Bool) → closed rest ≡ c → None ≡ cond c (worded (at + length (piece rest)) (which_word (piece rest))) None
      go true c = rw (long_word (piece rest) (far c))
      go false c = refl

  pub near_other : (f : List ℕ) → Some f ≡ ended (take k rest) → None ≡ which_word f → None ≡ word_in (drop at s) at
  near_other f h w = ap (worded (at + length f)) w ∙ near_word f h ∙ rest_word

  pub near_found : (f : List ℕ) (w : Word) → Some f ≡ ended (take k rest) → Some w ≡ which_word f → Some (field.Word w (at + length f)) ≡ word_in (drop at s) at
  near_found f w h g = ap (worded (at + length f)) g ∙ near_word f h ∙ rest_word

pub no_place : (s : List ℕ) (at : ℕ) → length s ≤ at → None ≡ word_in (drop at s) at
unfolding closed
no_place s at h = rw (drop_of_length-le s h)

-- ## Numbers

-- a field that does not begin with a minus
unsigned : (next : ℕ) (p : List ℕ) → (get_or p 0 0 ≡ 45 → ⊥) → signed next p ≡ numbered next (number_of p)
unfolding digits
unsigned next [] n = refl
unsigned next (b ∷ p) n = rw (ne_eqb b 45 n)

piece_first : (t : Bool) (b : ℕ) (p : List ℕ) → (b ≡ 45 → ⊥) → get_or (cond t [] (b ∷ p)) 0 0 ≡ 45 → ⊥
piece_first true b p n e = omega arith
piece_first false b p n e = n e

abbrev to_field : Option Num → Option Field
to_field n = option_map (λ (n : Num). Number n.value n.next) n

to_number : (next : ℕ) (c : Bool) (o : maybe.Option ℕ) → to_field (cond c (held next o) None) ≡ cond c (numbered next o) None
to_number next true maybe.none = refl
to_number next true (maybe.some v) = refl
to_number next false o = refl

module _ (s : List ℕ) (at : ℕ) where
  pub past : length s ≤ at → None ≡ number_in (drop at s) at
  unfolding closed
  past h = rw (drop_of_length-le s h)

  pub at_minus : at < length s → get_or s at 0 ≡ 45 → minus_in (drop (at + 1) s) (at + 1) ≡ number_in (drop at s) at
  unfolding closed piece
  at_minus h e =
      let n : at + suc (length (piece (drop (suc at) s))) ≡ suc at + length (piece (drop (suc at) s)) = omega arith in
      rw (add-one at, drop-cons s at 0 h, e) (sym (ap (λ (k : ℕ). cond (closed (drop (suc at) s)) (lessened k (number_of (piece (drop (suc at) s)))) None) n))

  not_minus : at < length s → (get_or s at 0 ≡ 45 → ⊥) → get_or (piece (drop at s)) 0 0 ≡ 45 → ⊥
  unfolding piece
  not_minus h n = rw (drop-cons s at 0 h) (piece_first (ends_field (get_or s at 0)) (get_or s at 0) (piece (drop (suc at) s)) n)

  -- what `number` of texts says of the place
  no_minus : at < length s → (get_or s at 0 ≡ 45 → ⊥) → to_field (number_at s at) ≡ number_in (drop at s) at
  no_minus h n = rw (unsigned (at + length (piece (drop at s))) (piece (drop at s)) (not_minus h n)) (to_number (at + length (piece (drop at s))) (closed (drop at s)) (number_of (piece (drop at s))))

  pub no_number : at < length s → (get_or s at 0 ≡ 45 → ⊥) → None ≡ number_at s at → None ≡ number_in (drop at s) at
  no_number h n e = ap to_field e ∙ no_minus h n

  pub a_number : at < length s → (get_or s at 0 ≡ 45 → ⊥) → (n : Num) → Some n ≡ number_at s at → Some (Number n.value n.next) ≡ number_in (drop at s) at
  a_number h n m e = ap to_field e ∙ no_minus h n
