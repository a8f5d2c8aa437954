-- The digits of a number, one by one, and how many there are. Assumes nothing.
use Rattle.std.proofs.Common.{ℕ, zero, suc, ◌+◌, ◌/◌, ◌%◌, ◌^◌, ◌<◌, ◌≤◌, ◌≡◌, refl, sym, ap, ◌∙◌, cond, List, [], ◌∷◌, ◌++◌, length, ltb, lt-ltb, le-ltb, arith}
use Rattle.std.specs.Fmt.{decimal}
use Rattle.std.proofs.lemmas.Fmt.{decimal_by_steps, length-decimal-le}
use Rattle.print.specs.Lines.{spelled, digits}

-- room to spell changes nothing where there is enough
spelled_same : (k j n : ℕ) → n ≤ k → n ≤ j → spelled k n ≡ spelled j n
spelled_same zero zero n hk hj = refl
spelled_same zero (suc j) n hk hj = rw (lt-ltb n 10 (omega arith))
spelled_same (suc k) zero n hk hj = rw (lt-ltb n 10 (omega arith))
spelled_same (suc k) (suc j) n hk hj =
    ap (λ (ds : List ℕ). cond (ltb n 10) ((48 + n) ∷ []) (ds ++ ((48 + n % 10) ∷ []))) (spelled_same k j (n / 10) (omega arith) (omega arith))

pub digits_one : (n : ℕ) → n < 10 → digits n ≡ (48 + n) ∷ []
unfolding digits
digits_one zero h = refl
digits_one (suc n) h = rw (lt-ltb (suc n) 10 h)

pub digits_more : (n : ℕ) → 10 ≤ n → digits n ≡ digits (n / 10) ++ ((48 + n % 10) ∷ [])
unfolding digits
digits_more zero h = absurd (omega arith)
digits_more (suc n) h =
    rw (le-ltb (suc n) 10 h)
    (ap (λ (ds : List ℕ). ds ++ ((48 + suc n % 10) ∷ [])) (spelled_same n (suc n / 10) (suc n / 10) (omega arith) (omega arith)))

-- they are the decimal text of the library
pub decimal_digits : (n : ℕ) → n < 2 ^ 64 → decimal n ≡ digits n
decimal_digits =
    decimal_by_steps (λ n ds. ds ≡ digits n) (λ n h. sym (digits_one n h))
    (λ n ds h e. ap (λ (l : List ℕ). l ++ ((48 + n % 10) ∷ [])) e ∙ sym (digits_more n h))

-- a number below 10 to the k has at most k digits
pub digits_most : (k n : ℕ) → 0 < k → n < 10 ^ k → n < 2 ^ 64 → length (digits n) ≤ k
digits_most k n positive h word = rw (decimal_digits n word) at (length-decimal-le k n positive h word)
