-- The pieces of a text at its line feeds, and of its first line at the tabs: how they begin, as a reader meets them. Assumes nothing.
use Rattle.std.proofs.Common.{ℕ, ◌≡◌, refl, ap, sym, ◌∙◌, List, [], ◌∷◌, Bool, true, false, cond, ◌||◌, eqb, length, drop, arith, eqb-true}
use Rattle.texts.specs.Number.{piece, closed}
use Rattle.shapes.specs.Split.{onto, split, first, rest}

onto_pair : (c : ℕ) (ps : List (List ℕ)) → ps ≡ first ps ∷ rest ps → onto c ps ≡ first (onto c ps) ∷ rest (onto c ps)
onto_pair c [] e = e
onto_pair c (p ∷ ps) e = refl

split_cons : (t : Bool) (c : ℕ) (ps : List (List ℕ)) → ps ≡ first ps ∷ rest ps → cond t ([] ∷ ps) (onto c ps) ≡ first (cond t ([] ∷ ps) (onto c ps)) ∷ rest (cond t ([] ∷ ps) (onto c ps))
split_cons true c ps e = refl
split_cons false c ps e = onto_pair c ps e

-- there is a first piece
pub some_piece : (b : ℕ) (l : List ℕ) → split b l ≡ first (split b l) ∷ rest (split b l)
unfolding split
some_piece b [] = refl
some_piece b (c ∷ l) = split_cons (eqb c b) c (split b l) (some_piece b l)

-- the first line of a text as its fields
abbrev pub fields : List ℕ → List (List ℕ)
fields l = split 9 (first (split 10 l))

-- the text after its first field
abbrev pub later : List ℕ → List ℕ
later l = drop (length (piece l)) l

onto_first : (c : ℕ) (ps : List (List ℕ)) → ps ≡ first ps ∷ rest ps → first (onto c ps) ≡ c ∷ first ps
onto_first c ps e = rw e

onto_rest : (c : ℕ) (ps : List (List ℕ)) → rest (onto c ps) ≡ rest ps
onto_rest c [] = refl
onto_rest c (p ∷ ps) = refl

-- ## At a tab, at a line feed, at another byte

pub tab_fields : (l : List ℕ) → fields (9 ∷ l) ≡ [] ∷ fields l
unfolding split
tab_fields l = rw (onto_first 9 (split 10 l) (some_piece 10 l))

pub tab_rest : (l : List ℕ) → rest (split 10 (9 ∷ l)) ≡ rest (split 10 l)
unfolding split
tab_rest l = onto_rest 9 (split 10 l)

pub feed_fields : (l : List ℕ) → fields (10 ∷ l) ≡ [] ∷ []
unfolding split
feed_fields l = refl

pub feed_rest : (l : List ℕ) → rest (split 10 (10 ∷ l)) ≡ split 10 l
unfolding split
feed_rest l = refl

module _ (b : ℕ) (l : List ℕ) (n : eqb b 9 ≡ false) (m : eqb b 10 ≡ false) where
  plain_line : first (split 10 (b ∷ l)) ≡ b ∷ first (split 10 l)
  unfolding split
  plain_line = rw m (onto_first b (split 10 l) (some_piece 10 l))

  plain_fields : fields (b ∷ l) ≡ onto b (fields l)
  unfolding split
  plain_fields = rw (plain_line, n)

  pub plain_piece : piece (b ∷ l) ≡ b ∷ piece l
  unfolding piece
  plain_piece = rw (n, m)

  pub plain_rest : rest (split 10 (b ∷ l)) ≡ rest (split 10 l)
  unfolding split
  plain_rest = rw m (onto_rest b (split 10 l))

-- ## The first field and what follows it

-- what is the same of l and of another text after its first field
pub record Begins (l r : List ℕ) : Type 0 where
  pub field : first (fields l) ≡ piece l
  pub others : rest (fields l) ≡ rest (fields r)
  pub lines : rest (split 10 l) ≡ rest (split 10 r)
  pub stands : piece r ≡ []

begins_cons : (t u : Bool) (b : ℕ) (l : List ℕ) → eqb b 9 ≡ t → eqb b 10 ≡ u → Begins l (later l) → Begins (b ∷ l) (later (b ∷ l))
unfolding piece
begins_cons true u b l e f h =
    let z : b ≡ 9 = eqb-true b 9 e in
    rw (z) (record { field = rw (tab_fields l); others = refl; lines = refl; stands = refl })
begins_cons false true b l e f h =
    let z : b ≡ 10 = eqb-true b 10 f in
    rw (z) (record { field = rw (feed_fields l); others = refl; lines = refl; stands = refl })
begins_cons false false b l e f h =
    rw (plain_piece b l e f)
    (record {
      field = rw (plain_fields b l e f) (onto_first b (fields l) (some_piece 9 (first (split 10 l))) ∙ (ap (λ (p : List ℕ). b ∷ p) h.field ∙ sym (plain_piece b l e f)));
      others = rw (plain_fields b l e f) (onto_rest b (fields l) ∙ h.others);
      lines = plain_rest b l e f ∙ h.lines;
      stands = h.stands;
    })

pub begins : (l : List ℕ) → Begins l (later l)
unfolding piece split
begins [] = record { field = refl; others = refl; lines = refl; stands = refl }
begins (b ∷ l) = begins_cons (eqb b 9) (eqb b 10) b l refl refl (begins l)

-- a text whose first field is not closed has no line feed
open_cons : (t u : Bool) (b : ℕ) (l : List ℕ) → eqb b 9 ≡ t → eqb b 10 ≡ u → (closed l ≡ false → rest (split 10 l) ≡ []) → cond (t || u) true (closed l) ≡ false → rest (split 10 (b ∷ l)) ≡ []
open_cons true u b l e f h c = absurd (false_is c)
  where
    false_is : true ≡ false → ⊥
    false_is z = let y : ◌≡◌ {A = ℕ} 0 1 = ap (λ (t : Bool). cond t 0 1) z in omega arith
open_cons false true b l e f h c = absurd (false_is c)
  where
    false_is : true ≡ false → ⊥
    false_is z = let y : ◌≡◌ {A = ℕ} 0 1 = ap (λ (t : Bool). cond t 0 1) z in omega arith
open_cons false false b l e f h c = plain_rest b l e f ∙ h c

pub no_line : (l : List ℕ) → closed l ≡ false → rest (split 10 l) ≡ []
unfolding closed split
no_line [] c = refl
no_line (b ∷ l) c = open_cons (eqb b 9) (eqb b 10) b l refl refl (no_line l) c
