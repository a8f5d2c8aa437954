use Rattle.std.specs.Prelude.{◌≡◌, ◌*◌}
use Rattle.std.specs.Slice.Iter.{chunks_exact_rest, chunks_exact_size}
use Rattle.complete.proofs.Chunks.{Read}
use Rattle.complete.proofs.Sheet.stamp_all.Given as goal

abbrev pub invariant-loop-swap : goal.invariant-loop-swap
invariant-loop-swap l = (chunks_exact_size l.swap-iterator ≡ 2 * l.n) × Read l.n l.bound l.sizes l.self.swaps.now (chunks_exact_rest l.swap-iterator) l.sheet.items
