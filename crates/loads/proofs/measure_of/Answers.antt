use Rattle.std.specs.Prelude.{ℕ, suc, List, ◌∷◌, ◌≡◌, ◌+◌, ◌-◌, ◌<◌, map, length, drop, get_or, ◌+ℤ◌}
use Rattle.std.specs.Int.{w64}
use Rattle.std.proofs.Common.{ap, ap₂, refl, sym, subst, ◌∙◌, arith, to_z, add-one, drop-cons}
use Rattle.terms.specs.Order.{cost}
use Rattle.loads.proofs.Measured.{Within, sum_fits, sum_left, sum_within}
use Rattle.loads.proofs.measure_of.Goals as goal

-- element k, with what follows it
here : {A : Type 0} (xs : List A) (k : ℕ) (d a : A) → k < length xs → a ≡ get_or xs k d → drop k xs ≡ a ∷ drop (k + 1) xs
here xs k d a h e = drop-cons xs k d h ∙ (ap (λ b. b ∷ drop (suc k) xs) (sym e) ∙ ap (λ (j : ℕ). a ∷ drop j xs) (sym (add-one k)))

pub overflow_add-sum : goal.overflow_add-sum
overflow_add-sum g c =
    let k = c.loop-k.k in
    let x = c.args.x.now in
    let e : length x - k ≡ suc (length x - (k + 1)) = omega arith in
    let s = to_z w64 c.loop-k.sum-bits in
    sum_fits _ _ _ _ c.from.ensures c.wide.ensures.exact (omega arith) c.wide.ensures.small s (length x - (k + 1)) (length x) (subst (λ (n : ℕ). Within s n (length x)) e c.loop-k.invariant.within) (omega arith)

pub loop-k-preserved : goal.loop-k-preserved
loop-k-preserved g c =
    let k = c.loop-k.k in
    let x = c.args.x.now in
    let ms = c.args.measures.now in
    let value = g.M.Measure.value in
    let s = to_z w64 c.loop-k.sum-bits in
    let e : length x - k ≡ suc (length x - (k + 1)) = omega arith in
    let room = subst (λ (n : ℕ). Within s n (length x)) e c.loop-k.invariant.within in
    let before = ap₂ (λ (a : List _) (b : List ℕ). s +ℤ cost (map value a) b) (sym (here ms k c.index-measures-k.result c.index-measures-k.result (omega arith) c.index-measures-k.is)) (sym (here x k 0 (get_or x k 0) (omega arith) refl)) ∙ c.loop-k.invariant.left in
    record {
      left = sum_left _ _ _ _ c.from.ensures c.wide.ensures.exact (omega arith) c.wide.ensures.small s (length x - (k + 1)) (length x) room (omega arith) (map value (drop (k + 1) ms)) (get_or x k 0) (drop (k + 1) x) (cost (map value ms) x) (omega arith) before;
      within = sum_within _ _ _ _ c.from.ensures c.wide.ensures.exact (omega arith) c.wide.ensures.small s (length x - (k + 1)) (length x) room (omega arith);
    }
