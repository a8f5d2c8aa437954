-- Fields, words, and tests that pass; that each line as it is written reads back is proved in `proofs/Lines`. Assumes nothing.
use Rattle.std.specs.Prelude.{ℕ, zero, suc, ◌≤◌, ◌≡◌, Bool, true, false, cond, length, refl, List, [], ◌∷◌, ◌++◌, map, eqb}
use Rattle.std.proofs.Common.{arith, le-leb, eq-eqb, eqb-true}
use Rattle.std.proofs.Math.Option.{Option, some}
use Rattle.terms.specs.Limits.{All}
use Rattle.texts.specs.Number.{number_of}
use Rattle.lines.specs.Fields.{kit_word, size_word, cost_word, swap_word, load_word, word_of, which_word, same}
use Rattle.shapes.specs.Split.{split, first, numbers, shaped}
use Rattle.records.specs.Lines.{all, within}
use Rattle.print.specs.Lines.{digits, each}
use Rattle.written.specs.Parts.{Free, split_fields}
use Rattle.written.specs.Spelled.{number_back, number_free}

-- ## Any line

-- values that are written as fields, and read from them
pub record Fields {A : Type 0} (num : List ℕ → Option A) (spell : A → List ℕ) : Type 0 where
  pub back : (v : A) → num (spell v) ≡ some v
  pub no_tab : (v : A) → Free 9 (spell v)
  pub no_feed : (v : A) → Free 10 (spell v)

pub counted : Fields number_of digits
counted = record { back = number_back; no_tab = number_free 9 (omega arith); no_feed = number_free 10 (omega arith) }

-- the word of a line, by its number
pub record Word (w : ℕ) (word : List ℕ) : Type 0 where
  pub is : word_of word ≡ some w
  pub no_tab : Free 9 word
  pub no_feed : Free 10 word

-- a line without its line feed
abbrev pub body : {A : Type 0} → (A → List ℕ) → List ℕ → List A → List ℕ
body spell word values = word ++ each (λ v. 9 ∷ spell v) values

module _ {A : Type 0} {num : List ℕ → Option A} {spell : A → List ℕ} (f : Fields num spell) where
  numbers_back : (k : ℕ) (values : List A) → length values ≡ k → numbers num k (map spell values) ≡ some values
  unfolding numbers
  numbers_back zero [] e = refl
  numbers_back (suc k) [] e = absurd (omega arith)
  numbers_back zero (v ∷ values) e = absurd (omega arith)
  numbers_back (suc k) (v ∷ values) e = rw (f.back v, numbers_back k values (omega arith))

  module _ {w : ℕ} {word : List ℕ} (t : Word w word) (values : List A) where
    pub word_first : word_of (first (split 9 (body spell word values))) ≡ some w
    word_first = rw (split_fields spell f.no_tab word values t.no_tab) t.is

    pub shaped_back : (k : ℕ) → length values ≡ k → shaped w num k (body spell word values) ≡ some values
    shaped_back k e =
        rw (split_fields spell f.no_tab word values t.no_tab, t.is, eq-eqb w w refl) (numbers_back k values e)

-- ## The five words

pub kit_is_word : Word 0 kit_word
unfolding word_of which_word same
kit_is_word = record { is = refl; no_tab = (refl, (refl, (refl, tt))); no_feed = (refl, (refl, (refl, tt))) }

pub size_is_word : Word 1 size_word
unfolding word_of which_word same
size_is_word = record { is = refl; no_tab = (refl, (refl, (refl, (refl, tt)))); no_feed = (refl, (refl, (refl, (refl, tt)))) }

pub cost_is_word : Word 2 cost_word
unfolding word_of which_word same
cost_is_word = record { is = refl; no_tab = (refl, (refl, (refl, (refl, tt)))); no_feed = (refl, (refl, (refl, (refl, tt)))) }

pub swap_is_word : Word 3 swap_word
unfolding word_of which_word same
swap_is_word = record { is = refl; no_tab = (refl, (refl, (refl, (refl, tt)))); no_feed = (refl, (refl, (refl, (refl, tt)))) }

pub load_is_word : Word 4 load_word
unfolding word_of which_word same
load_is_word = record { is = refl; no_tab = (refl, (refl, (refl, (refl, tt)))); no_feed = (refl, (refl, (refl, (refl, tt)))) }

-- ## The tests pass

pub all_pass : {A : Type 0} (P : A → Type 0) (test : A → Bool) → ((a : A) → P a → test a ≡ true) → (l : List A) → All P l → all test l ≡ true
unfolding all
all_pass P test p [] h = refl
all_pass P test p (a ∷ l) h = rw (p a h.0) (all_pass P test p l h.1)

pub in_range : (least most v : ℕ) → least ≤ v → v ≤ most → within least most v ≡ true
in_range least most v h k = rw (le-leb least v h, le-leb v most k)

-- two runs of bytes that are the same are one
one_run : (x y : List ℕ) → same x y ≡ true → x ≡ y
unfolding same
one_run [] [] e = refl
one_run [] (b ∷ y) e = absurd (let z : ◌≡◌ {A = ℕ} 0 1 = cc in omega arith)
one_run (a ∷ x) [] e = absurd (let z : ◌≡◌ {A = ℕ} 0 1 = cc in omega arith)
one_run (a ∷ x) (b ∷ y) e = go (eqb a b) refl e (one_run x y)
  where
    go : (t : Bool) → eqb a b ≡ t → cond t (same x y) false ≡ true → (same x y ≡ true → x ≡ y) → a ∷ x ≡ b ∷ y
    go true p e ih = let q : a ≡ b = eqb-true a b p in cc (ih e)
    go false p e ih = absurd (let z : ◌≡◌ {A = ℕ} 0 1 = cc in omega arith)

pub two_runs : (x y : List ℕ) → (x ≡ y → ⊥) → same x y ≡ false
two_runs x y n = go (same x y) refl
  where
    go : (t : Bool) → same x y ≡ t → same x y ≡ false
    go true e = absurd (n (one_run x y e))
    go false e = e
