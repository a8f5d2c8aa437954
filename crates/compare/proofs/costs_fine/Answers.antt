use Rattle.std.proofs.Common.{rules, tests, pos}
use Rattle.std.proofs.lemmas.Iterator.{cases_from_all, YieldsList-from_slice}
use Rattle.terms.specs.Limits.{CostFine}
use Rattle.laws.specs.Decides.{all_decided}
use Rattle.compare.proofs.costs_fine.Goals as goal

pub returns : goal.returns
returns c =
    all_decided CostFine c.args.costs.now (pos 0) _ (cases_from_all _ _ _ CostFine (λ z. CostFine z → ⊥) c.all.ensures.ran (YieldsList-from_slice c.args.costs.now cc) (λ x q k. search (rules, tests)) (λ x q k. search (rules, tests)))
