-- What the call leaves is what the text says. Assumes nothing.
use Rattle.std.specs.Prelude.{ℕ, ◌+◌, ◌-◌, ◌*◌, ◌≤◌, ◌≡◌, List, [], ◌++◌, Bool, true, false, ◌&&◌, leb, ℤ, pos, length, get_or, take, drop, replicate, Ok, Err}
use Rattle.std.proofs.Common.{ap, sym, ◌∙◌, arith, length-take-le, mul-le-mul}
use native.Mathlib.Nat.{sub-zero}
use Rattle.std.specs.Prelude as std
use Rattle.terms.specs.declared.Refused.{Refused}
use Rattle.sheet.specs.declared.Counts.{Counts}
use Rattle.sheet.specs.Sheet.{sheet_of, Result, padded, cleared, result_of}
use Rattle.sheet.specs.Parts.{read_got, ReadWithin, Ended}

swaps_in : (n a : ℕ) → n ≤ 12 → a ≤ 64 → a * (2 * n) ≤ 1536
swaps_in n a h k = let z : 2 * n ≤ 24 = omega arith in omega (arith, mul-le-mul k z)

loads_in : (n a : ℕ) → n ≤ 12 → a ≤ 1024 → a * n ≤ 12288
loads_in n a h k = omega (arith, mul-le-mul k h)

pad : {A : Type 0} (none : A) (k long : ℕ) (l : List A) → k ≤ length l → length l ≡ long → take k l ++ replicate (length l - k) none ≡ padded none long (take k l)
pad none k long l h e =
    let z : length l - k ≡ long - length (take k l) = ap (λ (m : ℕ). m - k) e ∙ ap (λ (m : ℕ). long - m) (sym (length-take-le k l h)) in
    ap (λ (m : ℕ). take k l ++ replicate m none) z

result_same : (a b : std.Result Counts Refused) (z z' : List ℕ) (k k' : List ℤ) (w w' l l' : List ℕ) → a ≡ b → z ≡ z' → k ≡ k' → w ≡ w' → l ≡ l' → ◌≡◌ {A = Result} (record { answer = a; sizes = z; costs = k; swaps = w; loads = l }) (record { answer = b; sizes = z'; costs = k'; swaps = w'; loads = l' })
result_same a b z z' k k' w w' l l' p q s t u = cc

-- a refusal leaves every buffer 0
pub refused_is : (refused : Refused) (z : List ℕ) (k : List ℤ) (w l : List ℕ) → length z ≡ 12 → length k ≡ 12 → length w ≡ 1536 → length l ≡ 12288 → (now : Result) → Ended (Err refused) z k w l now → now ≡ cleared refused.why refused.place
refused_is refused z k w l lz lk lw ll now e =
    result_same _ _ _ _ _ _ _ _ _ _ e.answer
    (e.sizes ∙ ap (λ (m : ℕ). replicate m 0) (sub-zero (length z) ∙ lz))
    (e.costs ∙ ap (λ (m : ℕ). replicate m (pos 0)) (sub-zero (length k) ∙ lk))
    (e.swaps ∙ ap (λ (m : ℕ). replicate m 0) (sub-zero (length w) ∙ lw))
    (e.loads ∙ ap (λ (m : ℕ). replicate m 0) (sub-zero (length l) ∙ ll))

-- what the call leaves is what the text says
pub leaves : (r : std.Result Counts Refused) (z : List ℕ) (k : List ℤ) (w l : List ℕ) → length z ≡ 12 → length k ≡ 12 → length w ≡ 1536 → length l ≡ 12288 → ReadWithin r → (now : Result) → Ended r z k w l now
    → (s : List ℕ) → sheet_of s ≡ read_got r z k w l → now ≡ result_of (sheet_of s)
leaves (Ok c) z k w l lz lk lw ll h now e s f =
    let n = c.kinds in
    result_same _ _ _ _ _ _ _ _ _ _ e.answer
    (e.sizes ∙ pad 0 n 12 z (omega arith) lz)
    (e.costs ∙ pad (pos 0) n 12 k (omega arith) lk)
    (e.swaps ∙ pad 0 (c.swaps * (2 * n)) 1536 w (omega (arith, swaps_in n c.swaps h.0 h.1)) lw)
    (e.loads ∙ pad 0 (c.loads * n) 12288 l (omega (arith, loads_in n c.loads h.0 h.2)) ll)
    ∙ ap result_of (sym f)
leaves (Err refused) z k w l lz lk lw ll h now e s f = refused_is refused z k w l lz lk lw ll now e ∙ ap result_of (sym f)
