-- What the short cuts do: each does just what settling must not.
-- Assumes nothing.
use Rattle.std.specs.Prelude.{refl, [], ◌∷◌, pos}
use Rattle.std.proofs.Common.{inl, inr, arith}
use mathlib.Core.List.Memᴰ
use Rattle.terms.specs.Flat.{sheet_of, swap_at}
use Rattle.terms.specs.Swaps.{Reaches.stay, Reaches.forth, Reaches.back}
use Rattle.laws.specs.Signed.{lt_true}
use Rattle.worked.specs.Examples.{kit_a, kit_t, kit_n, load_2, load_3, load_4}
use Rattle.worked.specs.Shortcuts.{StepByDifference, unclamped, ReachesUnclamped, summed, ReachesByLattice, BeforeByGreater, BeforeUnsigned, BeforeWrapped}

-- the sheet cannot turn 1 0 0 2 into 0 0 3 0 (P8)
pub difference_changes : StepByDifference (load_4 1 0 1 2) (load_4 0 0 4 0) (load_4 1 0 0 2) (load_4 0 0 3 0)
difference_changes = record { fits = omega arith; gives = refl }

-- 0 3 0 would change (P10)
pub unclamped_changes : ReachesUnclamped (sheet_of 3 kit_t.swaps) (load_3 0 3 0) (load_3 0 2 1)
unclamped_changes = forth (unclamped (swap_at 3 kit_t.swaps 0)) (Memᴰ.head refl) (stay refl) record { fits = omega arith; gives = refl }

-- 0 1 1 0 would change (P7)
pub lattice_changes : ReachesByLattice (sheet_of 4 (kit_a 12).swaps) (load_4 0 1 1 0) (load_4 1 0 0 1)
lattice_changes =
    back (summed (swap_at 4 (kit_a 12).swaps 0) (swap_at 4 (kit_a 12).swaps 1)) (Memᴰ.tail (Memᴰ.tail (Memᴰ.head refl))) (stay refl) record { fits = omega arith; gives = refl }

-- 2 3 0 would stay (P9)
pub greater_first : BeforeByGreater kit_t.costs (load_3 1 1 0) (load_3 1 0 1)
greater_first = inr (refl, inr (refl, inl (omega arith)))

-- 2 3 would become 0 5 (P11)
pub unsigned_first : BeforeUnsigned (kit_n 5).costs (load_2 0 1) (load_2 1 0)
unsigned_first = inl (lt_true _ _ refl)

-- 3,000 parts would cost less than 1
pub wrapped_first : BeforeWrapped (pos 1000000 ∷ []) (3000 ∷ []) (1 ∷ [])
wrapped_first = inl (lt_true _ _ refl)
