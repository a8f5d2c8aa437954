-- A number that is no word's: no line begins with such a word, and none is read as one. Assumes nothing.
use Rattle.std.specs.Prelude.{ℕ, ◌≡◌, refl, List, Bool, true, false, not, ◌&&◌, Option, Some, None}
use Rattle.std.proofs.Common.{ne_eqb}
use Rattle.std.proofs.Math.Option as maybe
use Rattle.terms.specs.declared.Refusal.TheVariants.{BadLine}
use Rattle.texts.specs.Number.{piece, closed}
use Rattle.lines.specs.declared.Word.{Word}
use Rattle.lines.specs.Fields.{number_of_word, number_of_which, which_word, word_of}
use Rattle.shapes.specs.Split.{wrong, split, first, rest, is_word, shaped, read_line}
use Rattle.shapes.specs.Rows.{begun_in}
use Rattle.shapes.proofs.Turns.{lined_none}

not_word : (w : ℕ) → ((word : Word) → number_of_word word ≡ w → ⊥) → (o : Option Word) → is_word w (number_of_which o) ≡ false
not_word w unnamed None = refl
not_word w unnamed (Some word) = ne_eqb (number_of_word word) w (unnamed word)

not_begun : (w : ℕ) → ((word : Word) → number_of_word word ≡ w → ⊥) → (closed : Bool) (o : Option Word) → true ≡ not (closed && is_word w (number_of_which o))
not_begun w unnamed true o = rw (not_word w unnamed o)
not_begun w unnamed false o = refl

pub none_begun : (w : ℕ) (l : List ℕ) → ((word : Word) → number_of_word word ≡ w → ⊥) → true ≡ not (begun_in w l)
unfolding word_of
none_begun w l unnamed = not_begun w unnamed (closed l) (which_word (piece l))

pub none_read : {A : Type 0} (line w k : ℕ) (num : List ℕ → maybe.Option A) → ((word : Word) → number_of_word word ≡ w → ⊥) → (ps : List (List ℕ)) → read_line line (shaped w num k) ps ≡ wrong BadLine line
unfolding word_of
none_read line w k num unnamed ps = rw (not_word w unnamed (which_word (first (split 9 (first ps))))) (lined_none line (rest ps))
