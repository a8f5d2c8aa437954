-- A call's outcome is one, where acceptance leaves one; and how a program's tests show it.
--     outcome_one     two outcomes coincide
--     passed          every test was passed, where the outcome is none of the refusals
--     taken           where every test holds, the outcome is as acceptance says
--     ends, past, stops                 an outcome is put together: all hold; these hold and the rest decides; one of these does not hold
--     turns_hold, hold_turns, turns_stop, never_turns     the same of tests in turn
-- Assumes nothing.
use Rattle.std.specs.Prelude.{ℕ, zero, suc, ◌<◌, ◌≡◌, List, [], ◌∷◌, ◌++◌}
use Rattle.std.proofs.Common.{sym, ◌∙◌, inl, inr, arith}
use Rattle.terms.specs.Outcome.{Test, Outcome, in_turn}

-- every test holds
abbrev pub AllHold : {O : Type 0} → List (Test O) → Type 0
AllHold [] = Unit {0}
AllHold (t ∷ ts) = t.holds × AllHold ts

-- o is the outcome of none of the tests
abbrev pub Never : {O : Type 0} → O → List (Test O) → Type 0
Never o [] = Unit {0}
Never o (t ∷ ts) = (o ≡ t.otherwise → ⊥) × Never o ts

-- o is the outcome of the first of these tests that does not hold
abbrev pub Stopped : {O : Type 0} → List (Test O) → O → Type 0
Stopped = Outcome (λ o. ⊥)

module _ {O : Type 0} where
  pub outcome_one : (accepted : O → Type 0) (ts : List (Test O)) → (AllHold ts → (o p : O) → accepted o → accepted p → o ≡ p) → (o p : O) → Outcome accepted ts o → Outcome accepted ts p → o ≡ p
  outcome_one accepted [] one o p a b = one tt o p a b
  outcome_one accepted (t ∷ ts) one o p (inl f) (inl g) = f.1 ∙ sym g.1
  outcome_one accepted (t ∷ ts) one o p (inl f) (inr b) = absurd (f.0 b.0)
  outcome_one accepted (t ∷ ts) one o p (inr a) (inl g) = absurd (g.0 a.0)
  outcome_one accepted (t ∷ ts) one o p (inr a) (inr b) = outcome_one accepted ts (λ h. one (a.0, h)) o p a.1 b.1

  pub outcome_map : (accepted accepted' : O → Type 0) (ts : List (Test O)) (o : O) → (accepted o → accepted' o) → Outcome accepted ts o → Outcome accepted' ts o
  outcome_map accepted accepted' [] o f a = f a
  outcome_map accepted accepted' (t ∷ ts) o f (inl n) = inl n
  outcome_map accepted accepted' (t ∷ ts) o f (inr a) = inr (a.0, outcome_map accepted accepted' ts o f a.1)

  pub passed : (accepted : O → Type 0) (ts : List (Test O)) (o : O) → Never o ts → Outcome accepted ts o → AllHold ts
  passed accepted [] o n a = tt
  passed accepted (t ∷ ts) o n (inl f) = absurd (n.0 f.1)
  passed accepted (t ∷ ts) o n (inr a) = (a.0, passed accepted ts o n.1 a.1)

  -- where every test holds, the outcome is as acceptance says
  pub taken : (accepted : O → Type 0) (ts : List (Test O)) (o : O) → AllHold ts → Outcome accepted ts o → accepted o
  taken accepted [] o h a = a
  taken accepted (t ∷ ts) o h (inl f) = absurd (f.0 h.0)
  taken accepted (t ∷ ts) o h (inr a) = taken accepted ts o h.1 a.1

  -- ---- an outcome is put together

  pub ends : (accepted : O → Type 0) (ts : List (Test O)) (o : O) → AllHold ts → accepted o → Outcome accepted ts o
  ends accepted [] o h a = a
  ends accepted (t ∷ ts) o h a = inr (h.0, ends accepted ts o h.1 a)

  pub past : (accepted : O → Type 0) (ts us : List (Test O)) (o : O) → AllHold ts → Outcome accepted us o → Outcome accepted (ts ++ us) o
  past accepted [] us o h a = a
  past accepted (t ∷ ts) us o h a = inr (h.0, past accepted ts us o h.1 a)

  pub stops : (accepted : O → Type 0) (ts us : List (Test O)) (o : O) → Stopped ts o → Outcome accepted (ts ++ us) o
  stops accepted [] us o s = absurd s
  stops accepted (t ∷ ts) us o (inl f) = inl f
  stops accepted (t ∷ ts) us o (inr a) = inr (a.0, stops accepted ts us o a.1)

  -- ---- tests one after the other

  pub never_append : (o : O) (ts us : List (Test O)) → Never o ts → Never o us → Never o (ts ++ us)
  never_append o [] us n m = m
  never_append o (t ∷ ts) us n m = (n.0, never_append o ts us n.1 m)

  pub hold_append : (ts us : List (Test O)) → AllHold ts → AllHold us → AllHold (ts ++ us)
  hold_append [] us h k = k
  hold_append (t ∷ ts) us h k = (h.0, hold_append ts us h.1 k)

  pub append_hold : (ts us : List (Test O)) → AllHold (ts ++ us) → AllHold ts × AllHold us
  append_hold [] us h = (tt, h)
  append_hold (t ∷ ts) us h = let r = append_hold ts us h.1 in ((h.0, r.0), r.1)

  pub never_turns : (o : O) (k : ℕ) (tests : ℕ → List (Test O)) → ((i : ℕ) → Never o (tests i)) → Never o (in_turn k tests)
  never_turns o zero tests n = tt
  never_turns o (suc k) tests n = never_append o (tests 0) (in_turn k (λ i. tests (suc i))) (n 0) (never_turns o k (λ i. tests (suc i)) (λ i. n (suc i)))

  pub hold_turns : (k : ℕ) (tests : ℕ → List (Test O)) → ((i : ℕ) → i < k → AllHold (tests i)) → AllHold (in_turn k tests)
  hold_turns zero tests h = tt
  hold_turns (suc k) tests h =
      hold_append (tests 0) (in_turn k (λ i. tests (suc i))) (h 0 (omega arith)) (hold_turns k (λ i. tests (suc i)) (λ i l. h (suc i) (omega arith)))

  pub turns_hold : (k : ℕ) (tests : ℕ → List (Test O)) → AllHold (in_turn k tests) → (i : ℕ) → i < k → AllHold (tests i)
  turns_hold zero tests h i l = absurd (omega arith)
  turns_hold (suc k) tests h zero l = (append_hold (tests 0) (in_turn k (λ i. tests (suc i))) h).0
  turns_hold (suc k) tests h (suc i) l =
      turns_hold k (λ i. tests (suc i)) (append_hold (tests 0) (in_turn k (λ i. tests (suc i))) h).1 i (omega arith)

  pub turns_stop : (k : ℕ) (tests : ℕ → List (Test O)) (r : ℕ) (o : O) → r < k → ((i : ℕ) → i < r → AllHold (tests i)) → Stopped (tests r) o → Stopped (in_turn k tests) o
  turns_stop zero tests r o l h s = absurd (omega arith)
  turns_stop (suc k) tests zero o l h s = stops (λ o. ⊥) (tests 0) (in_turn k (λ i. tests (suc i))) o s
  turns_stop (suc k) tests (suc r) o l h s =
      past (λ o. ⊥) (tests 0) (in_turn k (λ i. tests (suc i))) o (h 0 (omega arith)) (turns_stop k (λ i. tests (suc i)) r o (omega arith) (λ i l. h (suc i) (omega arith)) s)
