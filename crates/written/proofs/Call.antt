-- What the call that reads a sheet answers and leaves, of a text that was written: by its contract, exactly what it was written from. Assumes nothing.
use Rattle.std.specs.Prelude.{ℕ, ◌≤◌, ◌≡◌, List, ℤ, length}
use Rattle.std.proofs.Common.{ap, ◌∙◌}
use Rattle.terms.specs.Limits.{most_kinds, most_text}
use Rattle.laws.specs.Outcome.{taken}
use Rattle.shapes.specs.Split.{fine}
use Rattle.sheet.specs.Sheet.{Result, Reads, tests, swap_room, load_room, sheet_of, result_of}
use Rattle.written.specs.Write.{Content, Within, text_of, sheet_for}
use Rattle.written.proofs.Back.{reads_back}

pub call_back : (c : Content) → Within c → length (text_of c) ≤ most_text
    → (sizes : List ℕ) (costs : List ℤ) (swaps loads : List ℕ) → length sizes ≡ most_kinds → length costs ≡ most_kinds → length swaps ≡ swap_room → length loads ≡ load_room
    → (o : Result) → Reads (text_of c) sizes costs swaps loads o → o ≡ result_of (fine (sheet_for c))
call_back c w short sizes costs swaps loads s k p q o r =
    taken (λ o. o ≡ result_of (sheet_of (text_of c))) (tests (text_of c) sizes costs swaps loads) o (s, (k, (p, (q, (short, tt))))) r
    ∙ ap result_of (reads_back c w)
