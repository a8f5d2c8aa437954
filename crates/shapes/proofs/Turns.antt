-- How the rows of a line go, field by field. Assumes nothing.
use Rattle.std.proofs.Common.{ℕ, suc, ◌+◌, ◌-◌, min, ◌≤◌, ◌<◌, ◌≡◌, refl, ap, sym, ◌∙◌, ◌⊎◌, inl, inr, ⊎_elim, List, [], ◌∷◌, ◌++◌, append-nil, append_assoc, Bool, true, false, cond, arith, add-one, eqb, length, take, drop, set, drop-drop, take-suc-set, take_all, eqb-true, ne_eqb, Some, None, ok_or}
use Rattle.std.proofs.Math.Option.{Option, none, some}
use Rattle.std.specs.Bool.{then_some}
use Rattle.std.specs.Prelude as std
use Rattle.terms.specs.declared.Refusal.TheVariants.{BadLine}
use Rattle.texts.specs.declared.Num.{Num}
use Rattle.texts.specs.Number.{number_of, piece, closed, cap, ending}
use Rattle.lines.specs.declared.Word as words
use Rattle.lines.specs.declared.Field.{Field}
use Rattle.lines.specs.declared.Field.TheVariants.{Word, Number, Minus, Feed}
use Rattle.lines.specs.Fields.{which_word, worded, numbered, lessened, signed, word_in, number_in, field_in, field_at}
use Rattle.shapes.specs.Split.{Got, fine, wrong, split, first, rest, joined, numbers, lined}
use Rattle.shapes.specs.Rows.{amount_of, after_feed, numbers_got, less_code, more_code, code_of, row_got}
use Rattle.shapes.proofs.Parted.{fields, later, some_piece, tab_fields, tab_rest, feed_fields, feed_rest, plain_piece, begins, no_line}

pub true_false : {A : Type 0} → true ≡ false → A
true_false z = absurd (let y : ◌≡◌ {A = ℕ} 0 1 = ap (λ (t : Bool). cond t 0 1) z in omega arith)

bad_value : {A : Type 0} (v next : ℕ) → None ≡ ending next v → A
bad_value v next e = absurd (let z : ◌≡◌ {A = ℕ} 0 1 = cc in omega arith)

-- ## A field's number is its bytes'

valued : ℕ → Option ℕ → std.Option Num
valued next none = None
valued next (some v) = ending next v

less_link : (sg : Bool) (next : ℕ) (o : Option ℕ) → amount_of sg (lessened next o) ≡ valued next (less_code sg o)
unfolding valued
less_link sg next none = refl
less_link sg next (some v) = go sg (eqb v 0)
  where
    go : (sg t : Bool) → amount_of sg (cond t None (Some (Minus (min cap v) next))) ≡ valued next (cond t none (cond sg (some (cap - min cap v)) none))
    go sg true = refl
    go true false = refl
    go false false = refl

more_link : (sg : Bool) (next : ℕ) (o : Option ℕ) → amount_of sg (numbered next o) ≡ valued next (more_code sg o)
unfolding valued
more_link sg next none = refl
more_link true next (some v) = refl
more_link false next (some v) = refl

link_cons : (t : Bool) (sg : Bool) (next : ℕ) (o p : Option ℕ) → amount_of sg (cond t (lessened next o) (numbered next p)) ≡ valued next (cond t (less_code sg o) (more_code sg p))
link_cons true sg next o p = less_link sg next o
link_cons false sg next o p = more_link sg next p

link : (sg : Bool) (next : ℕ) (p : List ℕ) → amount_of sg (signed next p) ≡ valued next (code_of sg p)
unfolding valued
link sg next [] = refl
link sg next (b ∷ p) = link_cons (eqb b 45) sg next (number_of p) (number_of (b ∷ p))

word_amount : (sg c : Bool) (next : ℕ) (o : std.Option words.Word) → amount_of sg (cond c (worded next o) None) ≡ None
word_amount sg true next None = refl
word_amount sg true next (Some w) = refl
word_amount sg false next o = refl

-- ## Rows

-- more numbers in front
abbrev pub prepend : List ℕ → Got (List ℕ × List (List ℕ)) → Got (List ℕ × List (List ℕ))
prepend xs (fine r) = fine (xs ++ r.0, r.1)
prepend xs (wrong reason at) = wrong reason at

pub prepend_none : (g : Got (List ℕ × List (List ℕ))) → prepend [] g ≡ g
prepend_none (fine r) = refl
prepend_none (wrong reason at) = refl

pub prepend_twice : (xs ys : List ℕ) (g : Got (List ℕ × List (List ℕ))) → prepend xs (prepend ys g) ≡ prepend (xs ++ ys) g
prepend_twice xs ys (fine r) = rw (append_assoc xs ys r.0)
prepend_twice xs ys (wrong reason at) = refl

lined_more : (at v : ℕ) (o : Option (List ℕ)) (ps : List (List ℕ)) → lined at (joined (some v) o) ps ≡ prepend (v ∷ []) (lined at o ps)
lined_more at v o [] = refl
lined_more at v none (p ∷ ps) = refl
lined_more at v (some vs) (p ∷ ps) = refl

pub lined_none : {A : Type 0} (at : ℕ) (ps : List (List ℕ)) → lined {A = A} at none ps ≡ wrong BadLine at
lined_none at [] = refl
lined_none at (p ∷ ps) = refl

module _ (at : ℕ) (sg : Bool) where
  pub row_fields : (k : ℕ) (l : List ℕ) → piece l ≡ [] → row_got at sg k l ≡ lined at (numbers (code_of sg) k (rest (fields l))) (rest (split 10 l))
  row_fields k l e = rw ((begins l).field ∙ e)

  -- a tab, and the field after it
  tab_row : (k : ℕ) (l : List ℕ) → row_got at sg (suc k) (9 ∷ l) ≡ lined at (joined (code_of sg (piece l)) (numbers (code_of sg) k (rest (fields l)))) (rest (split 10 l))
  unfolding numbers
  tab_row k l = rw (tab_fields l, tab_rest l) (ap (λ (fs : List (List ℕ)). lined at (numbers (code_of sg) (suc k) fs) (rest (split 10 l))) (some_piece 9 (first (split 10 l))) ∙ rw (begins l).field)

  tab_number : (k v : ℕ) (l : List ℕ) → code_of sg (piece l) ≡ some v → row_got at sg (suc k) (9 ∷ l) ≡ prepend (v ∷ []) (row_got at sg k (later l))
  tab_number k v l e =
      tab_row k l ∙ (rw (e, (begins l).others, (begins l).lines) (lined_more at v (numbers (code_of sg) k (rest (fields (later l)))) (rest (split 10 (later l)))
      ∙ ap (prepend (v ∷ [])) (sym (row_fields k (later l) (begins l).stands))))

  tab_open : (k : ℕ) (l : List ℕ) → closed l ≡ false → row_got at sg (suc k) (9 ∷ l) ≡ wrong BadLine at
  tab_open k l c = tab_row k l ∙ rw (no_line l c)

  tab_other : (k : ℕ) (l : List ℕ) → code_of sg (piece l) ≡ none → row_got at sg (suc k) (9 ∷ l) ≡ wrong BadLine at
  tab_other k l e = tab_row k l ∙ rw e (lined_none at (rest (split 10 l)))

  tab_end : (l : List ℕ) → row_got at sg 0 (9 ∷ l) ≡ wrong BadLine at
  unfolding numbers
  tab_end l = rw (tab_fields l, tab_rest l) (ap (λ (fs : List (List ℕ)). lined at (numbers (code_of sg) 0 fs) (rest (split 10 l))) (some_piece 9 (first (split 10 l))) ∙ lined_none at (rest (split 10 l)))

  feed_row : (k : ℕ) (l : List ℕ) → row_got at sg (suc k) (10 ∷ l) ≡ wrong BadLine at
  unfolding numbers
  feed_row k l = rw (feed_fields l, feed_rest l) (lined_none at (split 10 l))

  feed_end : (l : List ℕ) → row_got at sg 0 (10 ∷ l) ≡ fine ([], split 10 l)
  unfolding numbers
  feed_end l = rw (feed_fields l, feed_rest l) (ap (lined at (some [])) (some_piece 10 l) ∙ ap (λ (ps : List (List ℕ)). fine ([], ps)) (sym (some_piece 10 l)))

  other_row : (k b : ℕ) (l : List ℕ) → eqb b 9 ≡ false → eqb b 10 ≡ false → row_got at sg k (b ∷ l) ≡ wrong BadLine at
  other_row k b l n m = rw ((begins (b ∷ l)).field ∙ plain_piece b l n m) (lined_none at (rest (split 10 (b ∷ l))))

  empty_row : (k : ℕ) → row_got at sg k [] ≡ wrong BadLine at
  unfolding split
  empty_row k = refl

ending_of : (v next x y : ℕ) → ending next v ≡ ending y x → (v ≡ x) × (next ≡ y)
ending_of v next x y e = let n : ◌≡◌ {A = Num} (record { value = v; next = next }) (record { value = x; next = y }) = cc in (ap (λ (n : Num). n.value) n, ap (λ (n : Num). n.next) n)

-- what a tab's field says
tabbed : (sg c : Bool) (nx v next : ℕ) (p : List ℕ) → amount_of sg (cond c (signed nx p) None) ≡ ending next v → (code_of sg p ≡ some v) × (nx ≡ next)
unfolding valued
tabbed sg false nx v next p e = bad_value v next e
tabbed sg true nx v next p e = go (code_of sg p) refl (sym (link sg nx p) ∙ e)
  where
    go : (o : Option ℕ) → code_of sg p ≡ o → valued nx o ≡ ending next v → (code_of sg p ≡ some v) × (nx ≡ next)
    go none f e = bad_value v next e
    go (some x) f e = let n = ending_of _ _ _ _ e in (f ∙ ap (λ (v : ℕ). some v) n.0, n.1)

untabbed : (sg c : Bool) (nx : ℕ) (p : List ℕ) → amount_of sg (cond c (signed nx p) None) ≡ None → (c ≡ false) ⊎ (code_of sg p ≡ none)
unfolding valued
untabbed sg false nx p e = inl refl
untabbed sg true nx p e = go (code_of sg p) refl (sym (link sg nx p) ∙ e)
  where
    go : (o : Option ℕ) → code_of sg p ≡ o → valued nx o ≡ None → (true ≡ false) ⊎ (code_of sg p ≡ none)
    go none f e = inr f
    go (some x) f e = bad_value x nx (sym e)

module _ (at : ℕ) (sg : Bool) (s : List ℕ) (place : ℕ) where
  -- the text after the field that begins after place
  after_tab : (b : ℕ) (l : List ℕ) → drop place s ≡ b ∷ l → drop (place + 1 + length (piece l)) s ≡ later l
  after_tab b l e = sym (drop-drop (length (piece l)) (place + 1) s) ∙ ap (drop (length (piece l))) (sym (drop-drop 1 place s) ∙ ap (drop 1) e)

  turn_at : (k v next : ℕ) (l : List ℕ) → drop place s ≡ l → amount_of sg (field_in l place) ≡ ending next v → row_got at sg (suc k) l ≡ prepend (v ∷ []) (row_got at sg k (drop next s))
  turn_at k v next [] e f = bad_value v next f
  turn_at k v next (b ∷ l) e f = go (eqb b 9) (eqb b 10) refl refl f
    where
      go : (t u : Bool) → eqb b 9 ≡ t → eqb b 10 ≡ u → amount_of sg (cond t (number_in l (place + 1)) (cond u (Some (Feed (place + 1))) (word_in (b ∷ l) place))) ≡ ending next v
          → row_got at sg (suc k) (b ∷ l) ≡ prepend (v ∷ []) (row_got at sg k (drop next s))
      go true u n m f =
          let r = tabbed sg (closed l) (place + 1 + length (piece l)) v next (piece l) f in
          ap (λ (x : ℕ). row_got at sg (suc k) (x ∷ l)) (eqb-true b 9 n) ∙ (tab_number at sg k v l r.0
          ∙ ap (λ (q : List ℕ). prepend (v ∷ []) (row_got at sg k q)) (sym (after_tab b l e) ∙ ap (λ (q : ℕ). drop q s) r.1))
      go false true n m f = bad_value v next f
      go false false n m f = bad_value v next (sym (word_amount sg (closed (b ∷ l)) (place + length (piece (b ∷ l))) (which_word (piece (b ∷ l)))) ∙ f)

  pub turn : (k v next : ℕ) → amount_of sg (field_at s place) ≡ ending next v → row_got at sg (suc k) (drop place s) ≡ prepend (v ∷ []) (row_got at sg k (drop next s))
  turn k v next f = turn_at k v next (drop place s) refl f

  stop_at : (k : ℕ) (l : List ℕ) → amount_of sg (field_in l place) ≡ None → row_got at sg (suc k) l ≡ wrong BadLine at
  stop_at k [] f = empty_row at sg (suc k)
  stop_at k (b ∷ l) f = go (eqb b 9) (eqb b 10) refl refl f
    where
      go : (t u : Bool) → eqb b 9 ≡ t → eqb b 10 ≡ u → amount_of sg (cond t (number_in l (place + 1)) (cond u (Some (Feed (place + 1))) (word_in (b ∷ l) place))) ≡ None → row_got at sg (suc k) (b ∷ l) ≡ wrong BadLine at
      go true u n m f =
          ap (λ (x : ℕ). row_got at sg (suc k) (x ∷ l)) (eqb-true b 9 n)
          ∙ ⊎_elim (λ c. tab_open at sg k l c) (λ c. tab_other at sg k l c) (untabbed sg (closed l) (place + 1 + length (piece l)) (piece l) f)
      go false true n m f = ap (λ (x : ℕ). row_got at sg (suc k) (x ∷ l)) (eqb-true b 10 m) ∙ feed_row at sg k l
      go false false n m f = other_row at sg (suc k) b l n m

  pub stop : (k : ℕ) → amount_of sg (field_at s place) ≡ None → row_got at sg (suc k) (drop place s) ≡ wrong BadLine at
  stop k f = stop_at k (drop place s) f

-- whether a field is the line feed
abbrev pub is_feed : std.Option Field → Bool
is_feed None = false
is_feed (Some (Word w next)) = false
is_feed (Some (Number v next)) = false
is_feed (Some (Minus v next)) = false
is_feed (Some (Feed next)) = true

-- the place after a field, if it is the line feed
abbrev pub feed_then : std.Option Field → std.Option ℕ
feed_then None = None
feed_then (Some (Word w next)) = None
feed_then (Some (Number v next)) = None
feed_then (Some (Minus v next)) = None
feed_then (Some (Feed next)) = Some next

numbered_feed : (next : ℕ) (o : Option ℕ) → feed_then (numbered next o) ≡ None
numbered_feed next none = refl
numbered_feed next (some v) = refl

no_feed : (t : Bool) (f g : std.Option Field) → feed_then f ≡ None → feed_then g ≡ None → feed_then (cond t f g) ≡ None
no_feed true f g p q = p
no_feed false f g p q = q

lessened_feed : (next : ℕ) (o : Option ℕ) → feed_then (lessened next o) ≡ None
lessened_feed next none = refl
lessened_feed next (some v) = no_feed (eqb v 0) None (Some (Minus (min cap v) next)) refl refl

signed_feed : (next : ℕ) (p : List ℕ) → feed_then (signed next p) ≡ None
signed_feed next [] = refl
signed_feed next (b ∷ p) = no_feed (eqb b 45) _ _ (lessened_feed next (number_of p)) (numbered_feed next (number_of (b ∷ p)))

worded_feed : (next : ℕ) (o : std.Option words.Word) → feed_then (worded next o) ≡ None
worded_feed next None = refl
worded_feed next (Some w) = refl

pub is_fed : (at : ℕ) (l : List ℕ) → feed_then (field_in l at) ≡ after_feed l at
is_fed at [] = refl
is_fed at (b ∷ l) = go (eqb b 9) (eqb b 10) refl refl
  where
    go : (t u : Bool) → eqb b 9 ≡ t → eqb b 10 ≡ u → feed_then (cond t (number_in l (at + 1)) (cond u (Some (Feed (at + 1))) (word_in (b ∷ l) at))) ≡ then_some u (at + 1)
    go true u n m =
        let z : u ≡ false = sym m ∙ ne_eqb b 10 (λ e. absurd (let y : b ≡ 9 = eqb-true b 9 n in omega arith)) in
        rw z (no_feed (closed l) _ None (signed_feed (at + 1 + length (piece l)) (piece l)) refl)
    go false true n m = refl
    go false false n m = no_feed (closed (b ∷ l)) _ None (worded_feed (at + length (piece (b ∷ l))) (which_word (piece (b ∷ l)))) refl

module _ (at : ℕ) (sg : Bool) (s : List ℕ) (place : ℕ) where
  end_at : (next : ℕ) (l : List ℕ) → drop place s ≡ l → Some next ≡ after_feed l place → row_got at sg 0 l ≡ fine ([], split 10 (drop next s))
  end_at next [] e f = absurd (let z : ◌≡◌ {A = ℕ} 0 1 = cc in omega arith)
  end_at next (b ∷ l) e f = go (eqb b 10) refl f
    where
      go : (u : Bool) → eqb b 10 ≡ u → Some next ≡ then_some u (place + 1) → row_got at sg 0 (b ∷ l) ≡ fine ([], split 10 (drop next s))
      go true m f =
          let z : place + 1 ≡ next = cc in
          ap (λ (x : ℕ). row_got at sg 0 (x ∷ l)) (eqb-true b 10 m) ∙ (feed_end at sg l
          ∙ ap (λ (q : List ℕ). fine ([], split 10 q)) (ap (drop 1) (sym e) ∙ (drop-drop 1 place s ∙ ap (λ (q : ℕ). drop q s) z)))
      go false m f = absurd (let z : ◌≡◌ {A = ℕ} 0 1 = cc in omega arith)

  no_end_at : (l : List ℕ) → None ≡ after_feed l place → row_got at sg 0 l ≡ wrong BadLine at
  no_end_at [] f = empty_row at sg 0
  no_end_at (b ∷ l) f = go (eqb b 9) (eqb b 10) refl refl f
    where
      go : (t u : Bool) → eqb b 9 ≡ t → eqb b 10 ≡ u → None ≡ then_some u (place + 1) → row_got at sg 0 (b ∷ l) ≡ wrong BadLine at
      go true u n m f = ap (λ (x : ℕ). row_got at sg 0 (x ∷ l)) (eqb-true b 9 n) ∙ tab_end at sg l
      go false true n m f = absurd (let z : ◌≡◌ {A = ℕ} 0 1 = cc in omega arith)
      go false false n m f = other_row at sg 0 b l n m

-- ## What the last arm of a match knows

-- a field that is no number, with a minus or without, has no number
pub other_amount : (sg : Bool) (f : std.Option Field) → ((v next : ℕ) → f ≡ Some (Number v next) → ⊥) → ((v next : ℕ) → f ≡ Some (Minus v next) → ⊥) → None ≡ amount_of sg f
other_amount sg None n m = refl
other_amount sg (Some (Word w next)) n m = refl
other_amount sg (Some (Number v next)) n m = absurd (n v next refl)
other_amount sg (Some (Minus v next)) n m = absurd (m v next refl)
other_amount sg (Some (Feed next)) n m = refl

-- a field of another kind is no line feed
pub other_feed : (f : std.Option Field) → ((next : ℕ) → f ≡ Some (Feed next) → ⊥) → is_feed f ≡ false
other_feed None n = refl
other_feed (Some (Word w next)) n = refl
other_feed (Some (Number v next)) n = refl
other_feed (Some (Minus v next)) n = refl
other_feed (Some (Feed next)) n = absurd (n next refl)

-- ## The loop: i of K numbers stand in the row, and the text at the place says the others

module _ (at : ℕ) (sg : Bool) (s : List ℕ) (K i place : ℕ) (row : List ℕ) (g : Got (List ℕ × List (List ℕ))) (inv : prepend (take i row) (row_got at sg (K - i) (drop place s)) ≡ g) where
  more_left : i < K → K - i ≡ suc (K - (i + 1))
  more_left h = omega arith

  none_left : K ≤ i → K - i ≡ 0
  none_left h = omega arith

  pub loop_stop : None ≡ amount_of sg (field_at s place) → i < K → g ≡ wrong BadLine at
  loop_stop e h =
      sym inv ∙ ap (prepend (take i row)) (ap (λ (k : ℕ). row_got at sg k (drop place s)) (more_left h) ∙ stop at sg s place (K - (i + 1)) (sym e))

  pub loop_turn : (v next : ℕ) → ending next v ≡ amount_of sg (field_at s place) → i < K → i < length row → prepend (take (i + 1) (set row i v)) (row_got at sg (K - (i + 1)) (drop next s)) ≡ g
  loop_turn v next e h r =
      ap (λ (x : List ℕ). prepend x (row_got at sg (K - (i + 1)) (drop next s))) (ap (λ (m : ℕ). take m (set row i v)) (add-one i) ∙ take-suc-set row i v r)
      ∙ (sym (prepend_twice (take i row) (v ∷ []) (row_got at sg (K - (i + 1)) (drop next s)))
      ∙ (ap (prepend (take i row)) (sym (ap (λ (k : ℕ). row_got at sg k (drop place s)) (more_left h) ∙ turn at sg s place (K - (i + 1)) v next (sym e))) ∙ inv))

  -- what the line feed at the place says
  pub loop_ends : (n : std.Option ℕ) → n ≡ after_feed (drop place s) place → K ≤ i → length row ≤ i → g ≡ numbers_got (ok_or n (record { why = BadLine; place = at })) row s
  loop_ends None e h r = sym inv ∙ ap (prepend (take i row)) (ap (λ (k : ℕ). row_got at sg k (drop place s)) (none_left h) ∙ no_end_at at sg s place (drop place s) e)
  loop_ends (Some next) e h r =
      sym inv ∙ (ap (prepend (take i row)) (ap (λ (k : ℕ). row_got at sg k (drop place s)) (none_left h) ∙ end_at at sg s place next (drop place s) refl e)
      ∙ ap (λ (x : List ℕ). fine (x, split 10 (drop next s))) (append-nil (take i row) ∙ take_all i row r))
