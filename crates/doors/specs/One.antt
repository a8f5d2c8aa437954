-- Each call answers one thing: two outcomes that its contract allows are the same, numbers, places and buffers.
use Rattle.std.specs.Prelude.{ℕ, ◌≡◌, refl, Bool, true, false, List, eqb, ℤ}
use Rattle.std.specs.Prelude as std
use Rattle.std.proofs.Common.{sym, ap, ◌∙◌, eqb-true}
use Rattle.std.proofs.lemmas.Bool.{eqb-false}
use Rattle.terms.specs.Order.{Before}
use Rattle.laws.specs.Order.{before?}
use Rattle.compare.specs.Earlier.{Fine}
use Rattle.promises.specs.Promises.{one_completion, one_settling}
use Rattle.terms.specs.declared.Refused.{Refused}
use Rattle.sheet.specs.declared.Counts.{Counts}
use Rattle.sheet.specs.Sheet.{Result}
use Rattle.sheet.proofs.One.{reads_one}
use Rattle.doors.specs.Answers.{EarlierIs, answer_number, answer_place, complete_place, CompleteIs, SettleIs, read_counts, ReadIs}

-- numbers that cannot differ are the same
stable : (a b : ℕ) → ((a ≡ b → ⊥) → ⊥) → a ≡ b
stable a b h = go (eqb a b) refl
  where
    go : (t : Bool) → eqb a b ≡ t → a ≡ b
    go true e = eqb-true a b e
    go false e = absurd (h (eqb-false a b e))

pub earlier_is_one : (n : ℕ) (costs : List ℤ) (x y : List ℕ) (r s : ℕ) → EarlierIs n costs x y r → EarlierIs n costs x y s → r ≡ s
earlier_is_one n costs x y r s p q = stable r s (λ differ. differ (p.refused (λ f. differ (fine f)) ∙ sym (q.refused (λ f. differ (fine f)))))
  where
    fine : Fine n costs x y → r ≡ s
    fine f = go (before? costs n y x f.y_long f.x_long)
      where
        go : Dec (Before costs y x) → r ≡ s
        go (yes b) = p.second f b ∙ sym (q.second f b)
        go (no none) = p.first f none ∙ sym (q.first f none)

pub settle_is_one : (n bound : ℕ) (sizes : List ℕ) (costs : List ℤ) (rules : List ℕ) (rows : ℕ) (load : List ℕ) (r s : ℕ) (after after' : List ℕ) (place place' : ℕ) → SettleIs n bound sizes costs rules rows load r after place → SettleIs n bound sizes costs rules rows load s after' place' → (r ≡ s) × (after ≡ after') × (place ≡ place')
settle_is_one n bound sizes costs rules rows load r s after after' place place' p q =
    let e = one_settling n bound sizes costs rules rows load (p.answer, after) (q.answer, after') p.made q.made in
    let a : p.answer ≡ q.answer = ap (λ (o : std.Result (Unit {0}) Refused × List ℕ). o.0) e in (
      p.number ∙ ap answer_number a ∙ sym q.number,
      ap (λ (o : std.Result (Unit {0}) Refused × List ℕ). o.1) e,
      p.at ∙ ap answer_place a ∙ sym q.at,
    )

pub complete_is_one : (n bound : ℕ) (sizes : List ℕ) (costs : List ℤ) (swaps rules : List ℕ) (r s : ℕ) (after after' : List ℕ) (place place' : ℕ) → CompleteIs n bound sizes costs swaps rules r after place → CompleteIs n bound sizes costs swaps rules s after' place' → (r ≡ s) × (after ≡ after') × (place ≡ place')
complete_is_one n bound sizes costs swaps rules r s after after' place place' p q =
    let e = one_completion n bound sizes costs swaps rules (p.answer, after) (q.answer, after') p.made q.made in
    let a : p.answer ≡ q.answer = ap (λ (o : std.Result ℕ Refused × List ℕ). o.0) e in (
      p.number ∙ ap answer_number a ∙ sym q.number,
      ap (λ (o : std.Result ℕ Refused × List ℕ). o.1) e,
      p.at ∙ ap complete_place a ∙ sym q.at,
    )

pub read_is_one : (text sizes : List ℕ) (costs : List ℤ) (swaps loads : List ℕ) (r s : ℕ) (o p : Result) (counts counts' : Counts) (line line' : ℕ) → ReadIs text sizes costs swaps loads r o.sizes o.costs o.swaps o.loads counts line → ReadIs text sizes costs swaps loads s p.sizes p.costs p.swaps p.loads counts' line' → (r ≡ s) × ((o.sizes ≡ p.sizes) × (o.costs ≡ p.costs) × (o.swaps ≡ p.swaps) × (o.loads ≡ p.loads)) × (counts ≡ counts') × (line ≡ line')
read_is_one text sizes costs swaps loads r s o p counts counts' line line' i j =
    let e = reads_one text sizes costs swaps loads _ _ i.made j.made in
    let a : i.answer ≡ j.answer = ap (λ (q : Result). q.answer) e in (
      i.number ∙ ap answer_number a ∙ sym j.number,
      (ap (λ (q : Result). q.sizes) e, ap (λ (q : Result). q.costs) e, ap (λ (q : Result). q.swaps) e, ap (λ (q : Result). q.loads) e),
      i.has ∙ ap read_counts a ∙ sym j.has,
      i.at ∙ ap answer_place a ∙ sym j.at,
    )
