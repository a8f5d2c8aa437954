-- The word that begins a line. Assumes nothing.
use Rattle.std.proofs.Common.{ℕ, ◌+◌, min, ◌≡◌, refl, ap, sym, ◌∙◌, List, [], ◌∷◌, Bool, true, false, cond, not, ◌&&◌, arith, eqb, length, drop, drop-drop, Some, None}
use Rattle.std.proofs.Math.Option.{Option, none, some}
use Rattle.std.specs.Prelude as std
use Rattle.std.specs.Bool.{then_some}
use denote.Enum.Bare.{sameb}
use denote.Enum.Declared.{tag_of}
use Rattle.lines.specs.contracts.Word.{the_type}
use Rattle.terms.specs.declared.Refusal.TheVariants.{BadLine}
use Rattle.texts.specs.Number.{number_of, piece, closed, cap}
use Rattle.lines.specs.declared.Word as words
use Rattle.lines.specs.declared.Word.TheVariants.{Kit, Size, Cost, Swap, Load}
use Rattle.lines.specs.declared.Field.{Field}
use Rattle.lines.specs.declared.Field.TheVariants.{Word, Number, Minus, Feed}
use Rattle.lines.specs.Fields.{number_of_word, number_of_which, which_word, word_of, worded, numbered, lessened, signed, word_in, number_in, field_in, field_at, same}
use Rattle.shapes.specs.Split.{wrong, split, rest, is_word, shaped, read_line}
use Rattle.shapes.specs.Rows.{code_of, row_got, begun_in, after_word}
use Rattle.shapes.proofs.Parted.{later, begins, no_line}
use Rattle.shapes.proofs.Turns.{true_false, lined_none, row_fields}

-- the place after a field, if it is the word
abbrev pub word_then : ℕ → std.Option Field → std.Option ℕ
word_then w None = None
word_then w (Some (Word v next)) = then_some (eqb (number_of_word v) w) next
word_then w (Some (Number v next)) = None
word_then w (Some (Minus v next)) = None
word_then w (Some (Feed next)) = None

and_false : (c : Bool) → (c && false) ≡ false
and_false true = refl
and_false false = refl

is_worded : (w next : ℕ) (c : Bool) (o : std.Option words.Word) → word_then w (cond c (worded next o) None) ≡ then_some (c && is_word w (number_of_which o)) next
is_worded w next true None = refl
is_worded w next true (Some v) = refl
is_worded w next false o = refl

no_word : (w : ℕ) (t : Bool) (f g : std.Option Field) → word_then w f ≡ None → word_then w g ≡ None → word_then w (cond t f g) ≡ None
no_word w true f g p q = p
no_word w false f g p q = q

no_numbered : (w next : ℕ) (o : Option ℕ) → word_then w (numbered next o) ≡ None
no_numbered w next none = refl
no_numbered w next (some v) = refl

no_lessened : (w next : ℕ) (o : Option ℕ) → word_then w (lessened next o) ≡ None
no_lessened w next none = refl
no_lessened w next (some v) = no_word w (eqb v 0) None (Some (Minus (min cap v) next)) refl refl

no_signed : (w next : ℕ) (p : List ℕ) → word_then w (signed next p) ≡ None
no_signed w next [] = refl
no_signed w next (b ∷ p) = no_word w (eqb b 45) _ _ (no_lessened w next (number_of p)) (no_numbered w next (number_of (b ∷ p)))

-- a field that ends at once is no word
at_once : (w b : ℕ) (l : List ℕ) → piece (b ∷ l) ≡ [] → begun_in w (b ∷ l) ≡ false
unfolding word_of which_word same
at_once w b l e = rw e (and_false (closed (b ∷ l)))

tab_piece : (b : ℕ) (l : List ℕ) → eqb b 9 ≡ true → piece (b ∷ l) ≡ []
unfolding piece
tab_piece b l n = rw n

feed_piece : (b : ℕ) (l : List ℕ) → eqb b 9 ≡ false → eqb b 10 ≡ true → piece (b ∷ l) ≡ []
unfolding piece
feed_piece b l n m = rw (n, m)

pub is_begun : (w at : ℕ) (l : List ℕ) → word_then w (field_in l at) ≡ after_word w l at
unfolding closed word_of
is_begun w at [] = refl
is_begun w at (b ∷ l) = go (eqb b 9) (eqb b 10) refl refl
  where
    none_begun : begun_in w (b ∷ l) ≡ false → None ≡ after_word w (b ∷ l) at
    none_begun e = rw e

    go : (t u : Bool) → eqb b 9 ≡ t → eqb b 10 ≡ u → word_then w (cond t (number_in l (at + 1)) (cond u (Some (Feed (at + 1))) (word_in (b ∷ l) at))) ≡ after_word w (b ∷ l) at
    go true u n m = no_word w (closed l) _ None (no_signed w (at + 1 + length (piece l)) (piece l)) refl ∙ none_begun (at_once w b l (tab_piece b l n))
    go false true n m = none_begun (at_once w b l (feed_piece b l n m))
    go false false n m = is_worded w (at + length (piece (b ∷ l))) (closed (b ∷ l)) (which_word (piece (b ∷ l)))

-- two words are the same where their numbers are
number_is : (v : words.Word) → tag_of the_type v ≡ number_of_word v
number_is Kit = refl
number_is Size = refl
number_is Cost = refl
number_is Swap = refl
number_is Load = refl

pub same_word : (v w : words.Word) → sameb the_type v w ≡ eqb (number_of_word v) (number_of_word w)
same_word v w = rw (number_is v, number_is w)

-- what the field at the place says of the word
module _ (word : words.Word) (at : ℕ) (l : List ℕ) where
  abbrev w : ℕ
  w = number_of_word word

  pub no_field : None ≡ field_in l at → None ≡ after_word w l at
  no_field e = ap (word_then w) e ∙ is_begun w at l

  pub other_field : (f : Field) → Some f ≡ field_in l at → ((v : words.Word) (next : ℕ) → f ≡ Word v next → ⊥) → None ≡ after_word w l at
  other_field (Word v next) e n = absurd (n v next refl)
  other_field (Number v next) e n = ap (word_then w) e ∙ is_begun w at l
  other_field (Minus v next) e n = ap (word_then w) e ∙ is_begun w at l
  other_field (Feed next) e n = ap (word_then w) e ∙ is_begun w at l

  pub word_field : (v : words.Word) (next : ℕ) → Some (Word v next) ≡ field_in l at → then_some (sameb the_type v word) next ≡ after_word w l at
  word_field v next e = rw (same_word v word) (ap (word_then w) e ∙ is_begun w at l)

and_both : (p q : Bool) → (p && q) ≡ true → (p ≡ true) × (q ≡ true)
and_both true q e = (refl, e)
and_both false q e = true_false (sym e)

module _ (line : ℕ) (sg : Bool) (w k : ℕ) where
  begun_row : (l : List ℕ) → begun_in w l ≡ true → read_line line (shaped w (code_of sg) k) (split 10 l) ≡ row_got line sg k (later l)
  begun_row l e =
      let h = and_both (closed l) (is_word w (word_of (piece l))) e in
      rw ((begins l).field, h.1, (begins l).others, (begins l).lines) (sym (row_fields line sg k (later l) (begins l).stands))

  other_row : (l : List ℕ) → begun_in w l ≡ false → read_line line (shaped w (code_of sg) k) (split 10 l) ≡ wrong BadLine line
  other_row l e = go (closed l) refl e
    where
      go : (c : Bool) → closed l ≡ c → (c && is_word w (word_of (piece l))) ≡ false → read_line line (shaped w (code_of sg) k) (split 10 l) ≡ wrong BadLine line
      go true n f = rw ((begins l).field, f) (lined_none line (rest (split 10 l)))
      go false n f = rw (no_line l n)

-- what the word at the place says
module _ (line : ℕ) (sg : Bool) (w k : ℕ) (s : List ℕ) (at : ℕ) where
  pub word_hit : (next : ℕ) → Some next ≡ after_word w (drop at s) at
      → (begun_in w (drop at s) ≡ true) × (read_line line (shaped w (code_of sg) k) (split 10 (drop at s)) ≡ row_got line sg k (drop next s))
  word_hit next e = go (begun_in w (drop at s)) refl e
    where
      go : (t : Bool) → begun_in w (drop at s) ≡ t → Some next ≡ then_some t (at + length (piece (drop at s)))
          → (begun_in w (drop at s) ≡ true) × (read_line line (shaped w (code_of sg) k) (split 10 (drop at s)) ≡ row_got line sg k (drop next s))
      go true b e =
          let n : next ≡ at + length (piece (drop at s)) = cc in
          (b, begun_row line sg w k (drop at s) b ∙ ap (λ (l : List ℕ). row_got line sg k l) (drop-drop (length (piece (drop at s))) at s ∙ ap (λ (q : ℕ). drop q s) (sym n)))
      go false b e = absurd (let z : ◌≡◌ {A = ℕ} 0 1 = cc in omega arith)

  pub word_miss : None ≡ after_word w (drop at s) at → (true ≡ not (begun_in w (drop at s))) × (read_line line (shaped w (code_of sg) k) (split 10 (drop at s)) ≡ wrong BadLine line)
  word_miss e = go (begun_in w (drop at s)) refl e
    where
      go : (t : Bool) → begun_in w (drop at s) ≡ t → None ≡ then_some t (at + length (piece (drop at s)))
          → (true ≡ not (begun_in w (drop at s))) × (read_line line (shaped w (code_of sg) k) (split 10 (drop at s)) ≡ wrong BadLine line)
      go true b e = absurd (let z : ◌≡◌ {A = ℕ} 0 1 = cc in omega arith)
      go false b e = (rw b, other_row line sg w k (drop at s) b)

  -- a field that is no word begins no line of the word
  pub word_none : (f : std.Option Field) → f ≡ field_at s at → ((v : words.Word) (place : ℕ) → f ≡ Some (Word v place) → ⊥)
      → (true ≡ not (begun_in w (drop at s))) × (read_line line (shaped w (code_of sg) k) (split 10 (drop at s)) ≡ wrong BadLine line)
  word_none f e n = word_miss (sym (go f n) ∙ (ap (word_then w) e ∙ is_begun w at (drop at s)))
    where
      go : (f : std.Option Field) → ((v : words.Word) (place : ℕ) → f ≡ Some (Word v place) → ⊥) → word_then w f ≡ None
      go None n = refl
      go (Some (Word v place)) n = absurd (n v place refl)
      go (Some (Number v place)) n = refl
      go (Some (Minus v place)) n = refl
      go (Some (Feed place)) n = refl
