-- Numbers as they are written read back as them, of any size; costs do in `proofs/Spelled`. Assumes nothing.
use Rattle.std.specs.Prelude.{ℕ, zero, suc, ◌+◌, ◌-◌, ◌*◌, ◌/◌, ◌%◌, ◌≤◌, ◌<◌, ◌≡◌, refl, List, [], ◌∷◌, ◌++◌, Bool, true, false, ltb, pos}
use Rattle.std.proofs.Common.{sym, ap, subst, ◌∙◌, arith, le-leb, ne_eqb, ltb-true, ltb-false}
use Rattle.std.proofs.Math.Option.{none, some}
use Rattle.terms.specs.Limits.{All}
use Rattle.texts.specs.Number.{plain, value_after, number_of}
use Rattle.texts.specs.Number as number
use Rattle.shapes.specs.Split.{cost_of}
use Rattle.print.specs.Lines.{digits}
use Rattle.print.proofs.Digits.{digits_one, digits_more}
use Rattle.written.specs.Parts.{Free, all_append}

-- ## What digits are

-- a digit, and what begins with one other than 0
abbrev pub Digit : ℕ → Type 0
Digit b = (48 ≤ b) × (b ≤ 57)

pub record Leads (l : List ℕ) : Type 0 where
  pub front : ℕ
  pub rest : List ℕ
  pub is : l ≡ front ∷ rest
  pub high : 49 ≤ front

-- the digits of v
pub record Written (v : ℕ) (l : List ℕ) : Type 0 where
  pub all : All Digit l
  pub value : value_after 0 l ≡ v
  pub leads : 1 ≤ v → Leads l

value_more : (v : ℕ) (l : List ℕ) (b : ℕ) → value_after v (l ++ (b ∷ [])) ≡ value_after v l * 10 + (b - 48)
unfolding value_after
value_more v [] b = refl
value_more v (c ∷ l) b = value_more (v * 10 + (c - 48)) l b

written_one : (v : ℕ) → v < 10 → Written v ((48 + v) ∷ [])
unfolding value_after
written_one v h =
    record {
      all = ((omega arith, omega arith), tt);
      value = omega arith;
      leads = λ l. record { front = 48 + v; rest = []; is = refl; high = omega arith };
    }

written_more : (v : ℕ) (l : List ℕ) → 10 ≤ v → Written (v / 10) l → Written v (l ++ ((48 + v % 10) ∷ []))
written_more v l h w =
    record {
      all = all_append Digit l ((48 + v % 10) ∷ []) w.all ((omega arith, omega arith), tt);
      value = value_more 0 l (48 + v % 10) ∙ omega (arith, w.value);
      leads = λ k. let f = w.leads (omega arith) in record { front = f.front; rest = f.rest ++ ((48 + v % 10) ∷ []); is = ap (λ (m : List ℕ). m ++ ((48 + v % 10) ∷ [])) f.is; high = f.high };
    }

written_to : (k v : ℕ) → v ≤ k → Written v (digits v)
written_to zero v h = subst (Written v) (sym (digits_one v (omega arith))) (written_one v (omega arith))
written_to (suc k) v h = go (ltb v 10) refl (written_to k (v / 10))
  where
    go : (t : Bool) → ltb v 10 ≡ t → (v / 10 ≤ k → Written (v / 10) (digits (v / 10))) → Written v (digits v)
    go true e rest = subst (Written v) (sym (digits_one v (ltb-true v 10 e))) (written_one v (ltb-true v 10 e))
    go false e rest =
        let big : 10 ≤ v = ltb-false v 10 e in
        subst (Written v) (sym (digits_more v big)) (written_more v (digits (v / 10)) big (rest (omega arith)))

pub written : (v : ℕ) → Written v (digits v)
written v = written_to v v (omega arith)

-- ## They read back

all_digits : (l : List ℕ) → All Digit l → number.digits l ≡ true
unfolding number.digits
all_digits [] h = refl
all_digits (b ∷ l) h = rw (le-leb 48 b h.0.0, le-leb b 57 h.0.1) (all_digits l h.1)

plain_led : (front : ℕ) (rest : List ℕ) → 49 ≤ front → plain (front ∷ rest) ≡ true
plain_led front [] h = refl
plain_led front (b ∷ rest) h = rw (ne_eqb front 48 (λ e. omega arith))

plain_digits : (v : ℕ) → plain (digits v) ≡ true
plain_digits zero = ap plain (digits_one 0 (omega arith))
plain_digits (suc v) = let f = (written (suc v)).leads (omega arith) in ap plain f.is ∙ plain_led f.front f.rest f.high

pub number_back : (v : ℕ) → number_of (digits v) ≡ some v
number_back v = rw (all_digits (digits v) (written v).all, plain_digits v, (written v).value)

no_number : number_of [] ≡ none
unfolding number.digits
no_number = refl

pub more_back : (v : ℕ) (l : List ℕ) → All Digit l → number_of l ≡ some v → cost_of l ≡ some (pos v)
more_back v [] h e = absurd (let z : ◌≡◌ {A = ℕ} 0 1 = cc no_number in omega arith)
more_back v (b ∷ l) h e = rw (ne_eqb b 45 (λ z. omega (arith, h.0.0)), e)

-- ## No digit, and no minus, is a tab or a line feed

digits_free : (b : ℕ) (l : List ℕ) → b < 48 → All Digit l → Free b l
digits_free b [] h k = tt
digits_free b (c ∷ l) h k = (ne_eqb c b (λ e. omega (arith, k.0.0)), digits_free b l h k.1)

pub number_free : (b : ℕ) → b < 45 → (v : ℕ) → Free b (digits v)
number_free b h v = digits_free b (digits v) (omega arith) (written v).all
