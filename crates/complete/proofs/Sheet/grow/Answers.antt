use Rattle.std.proofs.Common.{ℕ, List, sym, ap, subst, ◌∙◌}
use Rattle.padding.specs.Widen.{widen_sizes, weights}
use Rattle.growth.specs.State.{Working}
use Rattle.grades.specs.declared.Stamped.{Stamped as Held}
use Rattle.grades.specs.Stamped.{as_sheet, stamps_of}
use Rattle.complete.specs.Grown.{working, grown, sheet_widened, stamps_long, sheet_stamped}
use Rattle.complete.proofs.Sheet.grow.Goals as goal

pub grow-requires : goal.grow-requires
grow-requires c =
    let s = c.args.self.now in
    let n = s.kit.kinds in
    let bound = s.kit.bound in
    let sized = c.requires.0.kit.sized in
    let sizes = c.widen_sizes-sizes.ensures ∙ ap (λ (i : ℕ). widen_sizes i s.sizes.now) sized in
    let weighed = c.weigh_all-weights.ensures ∙ ap (λ (i : ℕ). weights i s.sizes.now s.costs.now) sized in
    let wide = c.widen_sizes-sizes.result in
    let works = working c.requires.0 wide c.weigh_all-weights.result _ sizes weighed (sheet_widened n bound wide s.swaps.now) _ (stamps_long n bound wide s.swaps.now) (sheet_stamped n bound wide s.swaps.now) in
    (subst (λ (l : List Held). Working bound wide c.weigh_all-weights.result (as_sheet l) (stamps_of l)) (sym (c.deref.ensures.0 ∙ c.stamp_all.ensures)) works, c.requires.1)

pub returns : goal.returns
returns c =
    let s = c.args.self.now in
    let sized = c.requires.0.kit.sized in
    let sizes = c.widen_sizes-sizes.ensures ∙ ap (λ (i : ℕ). widen_sizes i s.sizes.now) sized in
    let weighed = c.weigh_all-weights.ensures ∙ ap (λ (i : ℕ). weights i s.sizes.now s.costs.now) sized in
    let swaps = ap as_sheet (c.deref.ensures.0 ∙ c.stamp_all.ensures) ∙ sheet_widened s.kit.kinds s.kit.bound c.widen_sizes-sizes.result s.swaps.now in
    grown c.requires.0 _ _ _ sizes weighed swaps _ _ c.grow.ensures
