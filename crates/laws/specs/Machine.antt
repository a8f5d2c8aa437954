-- A signed local is its bits in the proofs: `to_z w64 s` is its number. These laws take the machine's readings off, for counts of 16 bits and costs of 32.
--     small          a number within 2 ^ 63 on each side fits an i64, and is read back from its bits
--     term_..        count times cost, as `(x[i] as i64) * (costs[i] as i64)` is lowered
-- Assumes nothing.
use Rattle.std.specs.Prelude.{ℕ, ◌+◌, ◌*◌, ◌<◌, ◌≤◌, ◌≡◌, ℤ, pos, negsuc, ◌+ℤ◌, ◌*ℤ◌, List, length, get_or, drop}
use Rattle.std.proofs.Common.{sym, ap, ap₂, subst, ◌∙◌, arith, mul-le-mul, add-mul, le_of_lt, to_z, of_z, SFits}
use Rattle.std.proofs.Math.IntN.{+ℤ_assoc}
use Rattle.std.specs.Int.Signed.{lt_z, mag}
use Rattle.terms.specs.Order.{cost}
use Rattle.laws.specs.Walk.{cost_next}
use Rattle.std.specs.Int.{Width, w32, w64}
use Rattle.std.proofs.lemmas.Int.{to_z_pos, to_z-of_z}
use Rattle.laws.specs.Signed.{up, down, mag_le, times_up, times_down, plus_up, plus_down}

pub small : (z : ℤ) → up z + down z < 9223372036854775808 → SFits w64 z
small z h = record { sfits = omega (arith, mag_le z) }

pub sides : (c : ℤ) → SFits w32 c → up c + down c ≤ 2147483648
sides (pos n) h = omega (arith, h.sfits)
sides (negsuc n) h = omega (arith, h.sfits)

-- a cost of 32 bits, cast to 64
pub widened : (c : ℤ) → SFits w32 c → SFits w64 (to_z w32 (of_z w32 c))
widened c h = rw (to_z-of_z w32 c h) (small c (omega (arith, sides c h)))

module _ (x : ℕ) (c : ℤ) (hx : x < 65536) (hc : SFits w32 c) where
  pub cost_fits : SFits w64 (to_z w32 (of_z w32 c))
  cost_fits = widened c hc

  pub term_small : up (pos x *ℤ c) + down (pos x *ℤ c) ≤ 140737488355328
  term_small =
      omega (arith, times_up x c, times_down x c, add-mul (up c) (down c) x, mul-le-mul (sides c hc) (le_of_lt hx))

  pub term_is : to_z w64 x *ℤ to_z w64 (of_z w64 (to_z w32 (of_z w32 c))) ≡ pos x *ℤ c
  term_is = ap₂ ◌*ℤ◌ (to_z_pos w64 x (omega arith)) (to_z-of_z w64 _ cost_fits ∙ to_z-of_z w32 c hc)

  pub term_fits : SFits w64 (to_z w64 x *ℤ to_z w64 (of_z w64 (to_z w32 (of_z w32 c))))
  term_fits = rw term_is (small (pos x *ℤ c) (omega (arith, term_small)))

  pub term_read : to_z w64 (of_z w64 (to_z w64 x *ℤ to_z w64 (of_z w64 (to_z w32 (of_z w32 c))))) ≡ pos x *ℤ c
  term_read = to_z-of_z w64 _ term_fits ∙ term_is

-- ---- tests

-- two signed locals that hold a and b
pub test_read : (w : Width) (a b : ℤ) → SFits w a → SFits w b → lt_z (to_z w (of_z w a)) (to_z w (of_z w b)) ≡ lt_z a b
test_read w a b f g = ap₂ lt_z (to_z-of_z w a f) (to_z-of_z w b g)

-- a signed local that holds a, and a constant
pub test_read_left : (w : Width) (a b : ℤ) → SFits w a → lt_z (to_z w (of_z w a)) b ≡ lt_z a b
test_read_left w a b f = ap (λ (z : ℤ). lt_z z b) (to_z-of_z w a f)

pub test_read_right : (w : Width) (a b : ℤ) → SFits w b → lt_z a (to_z w (of_z w b)) ≡ lt_z a b
test_read_right w a b f = ap (λ (z : ℤ). lt_z a z) (to_z-of_z w b f)

-- a signed local that holds a number that is not below 0
pub reads_pos : (z : ℤ) (n : ℕ) → z ≡ pos n → mag z < 9223372036854775808 → (to_z w64 (of_z w64 z) ≡ pos n) × (n < 9223372036854775808)
reads_pos z n e h =
    (to_z-of_z w64 z (record { sfits = h }) ∙ e, subst (λ (k : ℤ). mag k < 9223372036854775808) e h)

-- ---- one turn of a sum of terms, at i of at most 12

-- the bits s hold the cost of the first i kinds
abbrev pub Summed : List ℤ → List ℕ → ℕ → ℕ → Type 0
Summed costs x s i =
    (to_z w64 s +ℤ cost (drop i costs) (drop i x) ≡ cost costs x) × (up (to_z w64 s) + down (to_z w64 s) ≤ i * 140737488355328)

module _ (costs : List ℤ) (x : List ℕ) (s i : ℕ) (inv : Summed costs x s i) (p : i < length costs) (q : i < length x) (short : length x ≤ 12) (hx : get_or x i 0 < 65536) (hc : SFits w32 (get_or costs i (pos 0))) where
  abbrev machine : ℤ
  machine = to_z w64 (get_or x i 0) *ℤ to_z w64 (of_z w64 (to_z w32 (of_z w32 (get_or costs i (pos 0)))))

  abbrev total : ℤ
  total = to_z w64 s +ℤ (pos (get_or x i 0) *ℤ get_or costs i (pos 0))

  turn_is : to_z w64 s +ℤ to_z w64 (of_z w64 machine) ≡ total
  turn_is = ap (λ (z : ℤ). to_z w64 s +ℤ z) (term_read (get_or x i 0) (get_or costs i (pos 0)) hx hc)

  turn_small : up total + down total ≤ (i + 1) * 140737488355328
  turn_small =
      let t = pos (get_or x i 0) *ℤ get_or costs i (pos 0) in
      omega (arith, inv.1, plus_up (to_z w64 s) t, plus_down (to_z w64 s) t, term_small (get_or x i 0) (get_or costs i (pos 0)) hx hc)

  pub turn_fits : SFits w64 (to_z w64 s +ℤ to_z w64 (of_z w64 machine))
  turn_fits = rw turn_is (small total (omega (arith, turn_small)))

  turn_read : to_z w64 (of_z w64 (to_z w64 s +ℤ to_z w64 (of_z w64 machine))) ≡ total
  turn_read = to_z-of_z w64 _ turn_fits ∙ turn_is

  pub turn : Summed costs x (of_z w64 (to_z w64 s +ℤ to_z w64 (of_z w64 machine))) (i + 1)
  turn = (
    ap (λ (z : ℤ). z +ℤ cost (drop (i + 1) costs) (drop (i + 1) x)) turn_read
        ∙ +ℤ_assoc (to_z w64 s) _ _
        ∙ ap (λ (z : ℤ). to_z w64 s +ℤ z) (sym (cost_next costs x i p q))
        ∙ inv.0,
    subst (λ (z : ℤ). up z + down z ≤ (i + 1) * 140737488355328) (sym turn_read) turn_small,
  )
