-- What an accepted call of complete, and of the reader, has shown. Assumes nothing.
use Prim.Native.Nat.{ℕ, ◌≤◌}
use mathlib.Core.Path.{◌≡◌, subst}
use mathlib.Core.List.{List}
use lib.ListN.{replicate}
use lib.IntN.{ℤ, pos}
use Rattle.terms.specs.Load.{zeros}
use Rattle.terms.specs.Limits.{most_rows}
use Rattle.promises.specs.Completed.{table_ready, rows_few}
use Rattle.settle.specs.Ready.{Ready}
use Rattle.std.specs.Prelude.{Ok}
use Rattle.std.specs.Prelude as std
use Rattle.terms.specs.declared.Refused.{Refused}
use Rattle.complete.specs.Call.{Completing}
use Rattle.sheet.specs.declared.Counts.{Counts}
use Rattle.sheet.specs.Sheet.{Result, Reads}
use Rattle.answers.specs.Answer.{Counted}
use Rattle.answers.proofs.Counted.{reads_counted}

-- the table that complete made is one to settle by, of at most 256 rows
pub completing_ready : {n bound : ℕ} {sizes : List ℕ} {costs : List ℤ} {swaps room rules : List ℕ} {a : std.Result ℕ Refused} {rows : ℕ} → Completing n bound sizes costs swaps room (a, rules) → a ≡ Ok rows → Ready n bound sizes costs rules rows × (rows ≤ most_rows)
completing_ready {n} {bound} {sizes} {costs} {swaps} {room} {rules} {rows = rows} made e =
    let accepted : Completing n bound sizes costs swaps room (Ok rows, rules) = subst (λ (b : std.Result ℕ Refused). Completing n bound sizes costs swaps room (b, rules)) e made in
    (table_ready accepted, rows_few accepted)

-- the counts of a sheet that was read are within the limits
pub reading_counted : (text : List ℕ) (o : Result) (c : Counts) → Reads text (zeros 12) (replicate 12 (pos 0)) (zeros 1536) (zeros 12288) o → o.answer ≡ Ok c → Counted c
reading_counted text o c read e =
    let fine = reads_counted text (zeros 12) (replicate 12 (pos 0)) (zeros 1536) (zeros 12288) o c read e in
    record { kinds = fine.0; swaps = fine.1; loads = fine.2 }
