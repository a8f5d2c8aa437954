-- What is left of the two loads stands as the whole loads do.
use Rattle.std.specs.Prelude.{◌≡◌, length, ◌↔◌}
use Rattle.std.specs.Iterator.Adapters.{zip_first, zip_second}
use Rattle.std.specs.Slice.Iter.{iter_rest}
use Rattle.terms.specs.Order.{Lex}
use Rattle.compare.proofs.lex_less.Given as goal

abbrev pub invariant-loop-a : goal.invariant-loop-a
invariant-loop-a l =
    let xs = iter_rest (zip_first l.a-iterator) in
    let ys = iter_rest (zip_second l.a-iterator) in
    record { long : length xs ≡ length ys; same : Lex xs ys ↔ Lex l.x l.y }
