-- What a text says as a sheet: its lines in their sequence, and the first refusal with its line.
use Rattle.std.specs.Prelude.{ℕ, ◌+◌, ◌-◌, ◌*◌, ◌≤◌, ◌≡◌, List, [], ◌∷◌, ◌++◌, cond, ℤ, pos, length, replicate, Ok}
use Rattle.std.specs.Prelude as std
use Rattle.terms.specs.declared.Kit.{Kit}
use Rattle.terms.specs.declared.Refusal.{Refusal}
use Rattle.terms.specs.declared.Refusal.TheVariants.{Length, BadLine, LongText}
use Rattle.terms.specs.declared.Refused.{Refused}
use Rattle.terms.specs.Answers.{refuse}
use Rattle.terms.specs.Limits.{most_kinds, most_swaps, most_loads, most_text}
use Rattle.terms.specs.Outcome.{Test, must, Outcome}
use Rattle.lines.specs.Fields.{word_of}
use Rattle.shapes.specs.Split.{Got, fine, wrong, split, first, is_word}
use Rattle.shapes.specs.Rows.{is_empty}
use Rattle.records.specs.Lines.{Pieces, after, kit_line, size_line, cost_line, counts_line, swap_line}
use Rattle.sheet.specs.declared.Counts.{Counts}

-- so many records, and their counts one after the other
pub record Records : Type 0 where
  pub number : ℕ
  pub counts : List ℕ

-- the load lines, from line `from + used` on: after the last one the text ends
unfoldable pub load_lines : ℕ → ℕ → ℕ → List ℕ → Pieces → Got Records
load_lines n from used so [] = wrong BadLine (from + used)
load_lines n from used so (p ∷ []) = cond (is_empty p) (fine (record { number = used; counts = so })) (wrong BadLine (from + used))
load_lines n from used so (l ∷ (m ∷ ls)) =
    after (counts_line (from + used) 4 n used most_loads (l ∷ (m ∷ ls))) (λ r. load_lines n from (used + 1) (so ++ r.0) (m ∷ ls))

-- the loads that follow so many swaps
abbrev pub loads_after : ℕ → ℕ → List ℕ → Pieces → Got (Records × Records)
loads_after n used so ps = after (load_lines n (4 + used) 0 [] ps) (λ l. fine (record { number = used; counts = so }, l))

-- the swap lines, from line 4 on, as long as the word is swap; then the loads
unfoldable pub swap_lines : ℕ → List ℕ → ℕ → List ℕ → Pieces → Got (Records × Records)
swap_lines n sizes used so [] = loads_after n used so []
swap_lines n sizes used so (p ∷ []) = loads_after n used so (p ∷ [])
swap_lines n sizes used so (l ∷ (m ∷ ls)) =
    cond (is_word 3 (word_of (first (split 9 l))))
    (after (swap_line (4 + used) n sizes used (l ∷ (m ∷ ls))) (λ r. swap_lines n sizes (used + 1) (so ++ r.0) (m ∷ ls)))
    (loads_after n used so (l ∷ (m ∷ ls)))

-- what a sheet has
pub record Sheet : Type 0 where
  pub kit : Kit
  pub sizes : List ℕ
  pub costs : List ℤ
  pub swaps : Records
  pub loads : Records

-- the sheet that a text is: the kit line, the size line, the cost line, the swaps and the loads
abbrev pub sheet_of : List ℕ → Got Sheet
sheet_of text =
    after (kit_line (split 10 text)) (λ k.
    after (size_line k.0.kinds k.1) (λ s.
    after (cost_line k.0.kinds s.1) (λ c.
    after (swap_lines k.0.kinds s.0 0 [] c.1) (λ r.
    fine (record { kit = k.0; sizes = s.0; costs = c.0; swaps = r.0; loads = r.1 })))))

-- ## The call

-- the answer, and what the four buffers then hold
pub record Result : Type 0 where
  pub answer : std.Result Counts Refused
  pub sizes : List ℕ
  pub costs : List ℤ
  pub swaps : List ℕ
  pub loads : List ℕ

abbrev pub swap_room : ℕ
swap_room = most_swaps * (2 * most_kinds)

abbrev pub load_room : ℕ
load_room = most_loads * most_kinds

-- a refusal of a line, or of the whole text: every buffer is 0
abbrev pub cleared : Refusal → ℕ → Result
cleared reason line =
    record {
      answer = refuse reason line;
      sizes = replicate most_kinds 0;
      costs = replicate most_kinds (pos 0);
      swaps = replicate swap_room 0;
      loads = replicate load_room 0;
    }

-- the records from the front, then 0
abbrev pub padded : {A : Type 0} → A → ℕ → List A → List A
padded none long l = l ++ replicate (long - length l) none

abbrev pub result_of : Got Sheet → Result
result_of (wrong reason line) = cleared reason line
result_of (fine s) =
    record {
      answer = Ok (record { kinds = s.kit.kinds; bound = s.kit.bound; swaps = s.swaps.number; loads = s.loads.number });
      sizes = padded 0 most_kinds s.sizes;
      costs = padded (pos 0) most_kinds s.costs;
      swaps = padded 0 swap_room s.swaps.counts;
      loads = padded 0 load_room s.loads.counts;
    }

-- a buffer of another length: refusal 3 with line 0, and all untouched
abbrev pub untouched : List ℕ → List ℤ → List ℕ → List ℕ → Result
untouched sizes costs swaps loads = record { answer = refuse Length 0; sizes = sizes; costs = costs; swaps = swaps; loads = loads }

-- the tests before all lines: the lengths of the buffers, then that of the text
abbrev pub tests : List ℕ → List ℕ → List ℤ → List ℕ → List ℕ → List (Test Result)
tests text sizes costs swaps loads =
    must (length sizes ≡ most_kinds) (untouched sizes costs swaps loads)
    ∷ must (length costs ≡ most_kinds) (untouched sizes costs swaps loads)
    ∷ must (length swaps ≡ swap_room) (untouched sizes costs swaps loads)
    ∷ must (length loads ≡ load_room) (untouched sizes costs swaps loads)
    ∷ must (length text ≤ most_text) (cleared LongText 0)
    ∷ []

-- what reading a sheet answers and leaves
abbrev pub Reads : List ℕ → List ℕ → List ℤ → List ℕ → List ℕ → Result → Type 0
Reads text sizes costs swaps loads = Outcome (λ o. o ≡ result_of (sheet_of text)) (tests text sizes costs swaps loads)
