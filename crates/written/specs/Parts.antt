-- Bytes without a separator are one piece. Assumes nothing.
use Rattle.std.specs.Prelude.{ℕ, ◌≡◌, refl, List, [], ◌∷◌, ◌++◌, map, false, eqb}
use Rattle.std.proofs.Common.{ap, ◌∙◌, append-nil, eq-eqb}
use Rattle.terms.specs.Limits.{All}
use Rattle.shapes.specs.Split.{split}
use Rattle.print.specs.Lines.{each}

-- no byte is b
abbrev pub Free : ℕ → List ℕ → Type 0
Free b = All (λ c. eqb c b ≡ false)

pub all_append : {A : Type 0} (P : A → Type 0) (l m : List A) → All P l → All P m → All P (l ++ m)
all_append P [] m h k = k
all_append P (x ∷ l) m h k = (h.0, all_append P l m h.1 k)

pub split_at : (b : ℕ) (l r : List ℕ) → Free b l → split b (l ++ (b ∷ r)) ≡ l ∷ split b r
unfolding split
split_at b [] r h = rw (eq-eqb b b refl)
split_at b (c ∷ l) r h = rw (h.0, split_at b l r h.1)

split_last : (b : ℕ) (l : List ℕ) → Free b l → split b l ≡ l ∷ []
unfolding split
split_last b [] h = refl
split_last b (c ∷ l) h = rw (h.0, split_last b l h.1)

module _ {A : Type 0} (spell : A → List ℕ) where
  -- the fields of a line
  pub split_fields : ((v : A) → Free 9 (spell v)) → (word : List ℕ) (values : List A) → Free 9 word → split 9 (word ++ each (λ v. 9 ∷ spell v) values) ≡ word ∷ map spell values
  split_fields free word [] h = ap (split 9) (append-nil word) ∙ split_last 9 word h
  split_fields free word (v ∷ values) h =
      split_at 9 word (spell v ++ each (λ v. 9 ∷ spell v) values) h
      ∙ ap (λ (ps : List (List ℕ)). word ∷ ps) (split_fields free (spell v) values (free v))

  -- they have no line feed
  pub fields_free : ((v : A) → Free 10 (spell v)) → (values : List A) → Free 10 (each (λ v. 9 ∷ spell v) values)
  fields_free free [] = tt
  fields_free free (v ∷ values) = (refl, all_append (λ c. eqb c 10 ≡ false) (spell v) (each (λ v. 9 ∷ spell v) values) (free v) (fields_free free values))
