-- The numbers of the words. Assumes nothing.
use Rattle.std.specs.Prelude.{ℕ, ◌≡◌}
use Rattle.std.proofs.Common.{sym}
use Rattle.lines.specs.declared.Word.{Word}
use Rattle.lines.specs.declared.Word.TheVariants as words
use Rattle.lines.specs.Fields.{number_of_word}

-- which number is no word's, by those that are
pub no_word : (number : ℕ) → (number ≡ 0 → ⊥) → (number ≡ 1 → ⊥) → (number ≡ 2 → ⊥) → (number ≡ 3 → ⊥) → (number ≡ 4 → ⊥) → (word : Word) → number_of_word word ≡ number → ⊥
no_word number a b c d e words.Kit h = a (sym h)
no_word number a b c d e words.Size h = b (sym h)
no_word number a b c d e words.Cost h = c (sym h)
no_word number a b c d e words.Swap h = d (sym h)
no_word number a b c d e words.Load h = e (sym h)
