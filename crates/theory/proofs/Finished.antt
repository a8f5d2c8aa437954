-- The finished table of a sheet.
use Rattle.std.specs.Prelude.{ℕ, suc, List}
use Rattle.theory.specs.Kit.{Kit}
use Rattle.theory.specs.Rows.{Row}
use Rattle.theory.specs.Table.{Table}
use Rattle.theory.specs.Complete.{sheet_alike, Swap, Even}
use Rattle.theory.specs.Reach.{Reach}
use Rattle.theory.specs.Finished.{Strict, Finished, finished_sorted}
use Rattle.theory.proofs.Complete.{sheet_table}

module _ (K : Kit) (lex : Kit.L K → Kit.L K → Type 0) where
  open K use {L}

  module _ (st : Strict lex) where
    -- For every sheet and bound there is the finished table.
    unfoldable pub finished_some : (sheet : List (L × L)) → Even K sheet → (B : ℕ) → (T : List (Row L)) × Finished K lex (Reach K (Swap K sheet)) B T
    finished_some sheet even B =
        let t : (T : List (Row L)) × Table K (Reach K (Swap K sheet)) (suc B) T = sheet_table K sheet even (suc B) in
        finished_sorted K lex st (Reach K (Swap K sheet)) (sheet_alike K sheet even) B t.0 t.1
