use Rattle.std.proofs.Common.{ℕ, ◌+◌, ◌≤◌, ◌≡◌, ◌∙◌, ap, List, length, take, length-take, arith}
use Rattle.std.proofs.lemmas.List.{take_all}
use Rattle.print.specs.Lines.{digits}
use Rattle.print.proofs.Digits.{decimal_digits}
use Rattle.print.proofs.number.Goals as goal

pub push-requires : goal.push-requires
push-requires g c =
    let l = c.loop-k in
    let text = c.as_bytes-text.result.now in
    let is : text ≡ digits c.args.n = c.as_bytes-text.ensures.value ∙ c.format.ensures.text ∙ decimal_digits c.args.n c.ranges.n.fits in
    omega (
      arith,
      c.requires,
      c.loop-k-test.true,
      ap length is,
      length-take l.k text,
      g.met.P.Paper.moves_place (take l.k text) c.args.out.now l.out l.invariant,
      g.met.P.Paper.keeps_room (take l.k text) c.args.out.now l.out l.invariant,
    )

-- at the end the digits stored are all
all : (k n : ℕ) (text decimal : List ℕ) → length text ≤ k → text ≡ decimal → decimal ≡ digits n → take k text ≡ digits n
all k n text decimal long is spelled = take_all k text long ∙ is ∙ spelled

pub returns-clause-stored : goal.returns-clause-stored
returns-clause-stored g c =
    let l = c.loop-k in
    let text = c.as_bytes-text.result.now in
    rw (all l.k c.args.n text _ (omega (arith, c.loop-k-test.false)) (c.as_bytes-text.ensures.value ∙ c.format.ensures.text) (decimal_digits c.args.n c.ranges.n.fits)) at l.invariant

pub returns-clause-len : goal.returns-clause-len
returns-clause-len g c =
    let l = c.loop-k in
    let text = c.as_bytes-text.result.now in
    g.met.P.Paper.moves_place (take l.k text) c.args.out.now l.out l.invariant
    ∙ ap (λ (d : List ℕ). g.P.Paper.place c.args.out.now + length d) (all l.k c.args.n text _ (omega (arith, c.loop-k-test.false)) (c.as_bytes-text.ensures.value ∙ c.format.ensures.text) (decimal_digits c.args.n c.ranges.n.fits))
