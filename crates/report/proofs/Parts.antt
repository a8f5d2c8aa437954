-- A flat list of loads of n counts, load by load: what is left from load i on. Assumes nothing.
use Rattle.std.proofs.Common.{ℕ, ◌+◌, ◌*◌, ◌/◌, ◌<◌, ◌≤◌, ◌≡◌, sym, ap, ◌∙◌, List, ◌++◌, length, take, drop, length-append, length-drop, drop-drop, take_at, drop_at, arith}
use Rattle.std.proofs.lemmas.Nat.{le-div, div_below}
use native.Mathlib.Nat.{suc-mul}
use Rattle.report.specs.Report.{load_at}

module _ (n i : ℕ) (loads x rest : List ℕ) (left : drop (i * n) loads ≡ x ++ rest) (long : length x ≡ n) where
  -- the first n of them are load i
  pub first_load : x ≡ load_at n loads i
  first_load = sym (ap (take n) left ∙ take_at x rest n long)

  -- and the others are left from the next load on
  pub later_loads : rest ≡ drop ((i + 1) * n) loads
  later_loads =
      let e : (i + 1) * n ≡ i * n + n = omega (arith, suc-mul i n) in
      sym (ap (λ (k : ℕ). drop k loads) e ∙ sym (drop-drop n (i * n) loads) ∙ ap (drop n) left ∙ drop_at x rest n long)

  -- so load i is one of those that the list holds
  pub in_count : 1 ≤ n → i + 1 ≤ length loads / n
  in_count some =
      le-div (i + 1) (length loads) n some (omega (arith, suc-mul i n, ap length left, length-append x rest, length-drop (i * n) loads, long))

-- where less than a load is left, all are read
pub at_end : (n i : ℕ) (loads : List ℕ) → 1 ≤ n → i ≤ length loads / n → length (drop (i * n) loads) < n → i ≡ length loads / n
at_end n i loads some within short =
    omega (arith, within, div_below (length loads) n (i + 1) some (omega (arith, short, suc-mul i n, length-drop (i * n) loads)))
