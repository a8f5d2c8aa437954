-- What a row makes of the least load that holds its head and another, count by count.
-- Assumes nothing.
use Rattle.std.specs.Prelude.{ℕ, ◌+◌, ◌-◌, ◌≤◌, ◌<◌, ◌≡◌, List, length, get_or}
use Rattle.std.proofs.Common.{max, sym, ◌∙◌, arith}
use Rattle.terms.specs.Load.{Fits}
use Rattle.terms.specs.Swaps.{exchange}
use Rattle.laws.specs.Load.{join, UpTo, length_both, both_at, join_left, up_to_at}
use Rattle.laws.specs.Exchange.{exchange_long, exchange_at}

module _ (h t q : List ℕ) (eh : length h ≡ 12) (et : length t ≡ 12) (eq : length q ≡ 12) where
  both_long : length (join h q) ≡ 12
  both_long = length_both max h q (eh ∙ sym eq) ∙ eh

  fit : Fits h (join h q)
  fit = join_left h q (eh ∙ sym eq)

  pub made_long : length (exchange h t (join h q)) ≡ 12
  made_long = exchange_long h t (join h q) fit (et ∙ sym both_long) ∙ both_long

  module _ (k m : ℕ) (l : k < 12) (e : m ≡ max (get_or h k 0) (get_or q k 0)) where
    pub made_at : m - get_or h k 0 + get_or t k 0 ≡ get_or (exchange h t (join h q)) k 0
    made_at =
        let there : get_or (join h q) k 0 ≡ m = both_at max h q k (omega arith) (omega arith) ∙ sym e in
        omega (arith, there, exchange_at h t (join h q) fit (et ∙ sym both_long) k (omega (arith, both_long)))

    pub made_small : UpTo 65535 (exchange h t (join h q)) → m - get_or h k 0 + get_or t k 0 ≤ 65535
    made_small u = omega (arith, made_at, up_to_at 65535 (exchange h t (join h q)) k u)
