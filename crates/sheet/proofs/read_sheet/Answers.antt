-- `sheet::read_sheet` meets its contract: the tests before all lines, then what the text says.
use Rattle.std.proofs.Common.{ap, arith, ◌∙◌, inl, inr}
use Rattle.terms.specs.declared.Refused.{Refused}
use Rattle.sheet.specs.Sheet.{cleared}
use Rattle.sheet.proofs.Texts as texts
use Rattle.sheet.proofs.read_sheet.Goals as goal

pub returns-then-text-gt-TEXT : goal.returns-then-text-gt-TEXT
returns-then-text-gt-TEXT c =
    let a = c.args in
    inr (c.if-sizes-ne-KINDS.false, inr (c.if-costs-ne-KINDS.false, inr (c.if-swaps.false, inr (c.if-loads.false, inl (λ h. omega (arith, c.if-text-gt-TEXT.true), texts.refused_is c.at-then-text-gt-TEXT.result a.sizes.now a.costs.now a.swaps.now a.loads.now c.if-sizes-ne-KINDS.false c.if-costs-ne-KINDS.false c.if-swaps.false c.if-loads.false _ c.finish.ensures ∙ ap (λ (f : Refused). cleared f.why f.place) c.at-then-text-gt-TEXT.ensures)))))

pub returns : goal.returns
returns c =
    let x = c.read_text in
    inr (c.if-sizes-ne-KINDS.false, inr (c.if-costs-ne-KINDS.false, inr (c.if-swaps.false, inr (c.if-loads.false, inr (c.if-text-gt-TEXT.false, texts.leaves x.result x.new.sizes x.new.costs x.new.swaps x.new.loads (x.auto.sizes ∙ c.if-sizes-ne-KINDS.false) (x.auto.costs ∙ c.if-costs-ne-KINDS.false) (x.auto.swaps ∙ c.if-swaps.false) (x.auto.loads ∙ c.if-loads.false) x.ensures.0 _ c.finish-2.ensures c.args.text.now x.ensures.1)))))
