-- Which pairs of rows are enough: what is proved of the criteria of `specs/Chain`.
use Rattle.std.specs.Prelude.{ℕ, suc, ◌≤◌, ◌<◌, ◌≡◌, List, length, get_or}
use Rattle.std.proofs.Common.{ap, ap₂, sym, ◌∙◌, ⊎_elim, arith}
use Rattle.std.proofs.Math.Decide.{dec_lt}
use Rattle.theory.specs.Kit.{Kit, Fits, eq?}
use Rattle.theory.specs.Rows.{◌∈◌, Row, First, first_mem}
use Rattle.theory.specs.Settle.{nf}
use Rattle.theory.specs.Critical.{Link, one_head, joined, below, disjoint, Chain}
use Rattle.theory.specs.Chain.{chain_one, joined_sides, FirstPairs, Pivots, Covered, Entering}

module _ (K : Kit) where
  infixl 70 ◌⊕◌
  open K use {L, ◌⊕◌, grade, join, join_left, join_right}

  -- (a) THE FIRST ROW
  pub first_chain : (g : ℕ) (T₀ T : List (Row L)) → FirstPairs K g T₀ T → (u : L) → grade u ≡ g → (a b : Row L) → First K u a T₀ → b ∈ T₀ → Fits K b.head u → Chain K T₀ T u b a
  first_chain g T₀ T h u q a b f m fb = chain_one K T₀ T m fb (go (eq? K a.head b.head) (eq? K j u) (eq? K j (a.head ⊕ b.head)))
    where
      j : L
      j = join a.head b.head

      go : Dec (a.head ≡ b.head) → Dec (j ≡ u) → Dec (j ≡ a.head ⊕ b.head) → Link K T u a b
      go (yes e) d s = one_head e
      go (no n) (no d) s = below d
      go (no n) (yes d) (yes s) = disjoint s
      go (no n) (yes d) (no s) = joined (rw d at (h a b (first_mem K f) m n s (ap grade d ∙ q) (rw d f)))

  -- The rows entered so far: row number n is entered.
  pub covered_next :
      (B n : ℕ) (T : List (Row L)) (d : Row L) (Listed : ℕ → ℕ → Type 0) → Covered K B n T d Listed
      → ((i : ℕ) → i < n → grade (join (get_or T i d).head (get_or T n d).head) ≤ B → (p : ℕ) × (p < n) × Fits K (get_or T p d).head (join (get_or T i d).head (get_or T n d).head) × Listed p n)
      → Covered K B (suc n) T d Listed
  covered_next B n T d Listed h new i j l m q = go (dec_lt j n)
    where
      go : Dec (j < n) → (p : ℕ) × (p < j) × Fits K (get_or T p d).head (join (get_or T i d).head (get_or T j d).head) × Listed p j
      go (yes k) = h i j l k q
      go (no k) = let e : j ≡ n = omega arith in rw e (new i (omega arith) (rw e at q))

  -- none is open: the row is entered
  pub entering_end : (B n : ℕ) (T : List (Row L)) (d : Row L) (Open : ℕ → Type 0) (Listed : ℕ → ℕ → Type 0) → ((i : ℕ) → i < n → ¬ Open i) → Covered K B n T d Listed → Entering K B n T d Open Listed → Covered K B (suc n) T d Listed
  entering_end B n T d Open Listed none c h =
      covered_next B n T d Listed c (λ i l q. ⊎_elim (λ (a : Open i). absurd (none i l a)) (λ (r : (p : ℕ) × (p < n) × Fits K (get_or T p d).head (join (get_or T i d).head (get_or T n d).head) × Listed p n). r) (h i l q))

  -- the table may change, and rows that are not entered yet
  pub covered_table : (B n : ℕ) (T U : List (Row L)) (d : Row L) (Listed : ℕ → ℕ → Type 0) → ((i : ℕ) → i < n → (get_or T i d).head ≡ (get_or U i d).head) → Covered K B n T d Listed → Covered K B n U d Listed
  covered_table B n T U d Listed e h i j l m q = go (h i j l m (omega (arith, ap grade both)))
    where
      both : join (get_or T i d).head (get_or T j d).head ≡ join (get_or U i d).head (get_or U j d).head
      both = ap₂ join (e i (omega arith)) (e j m)

      fit : (p : ℕ) → p < j → Fits K (get_or T p d).head (join (get_or T i d).head (get_or T j d).head) → Fits K (get_or U p d).head (join (get_or U i d).head (get_or U j d).head)
      fit p k f = (f.0, ap (λ z. z ⊕ f.0) (sym (e p (omega arith))) ∙ f.1 ∙ both)

      go : (p : ℕ) × (p < j) × Fits K (get_or T p d).head (join (get_or T i d).head (get_or T j d).head) × Listed p j → (p : ℕ) × (p < j) × Fits K (get_or U p d).head (join (get_or U i d).head (get_or U j d).head) × Listed p j
      go r = (r.0, r.1, fit r.0 r.1 r.2, r.3)

  pub covered_pivots :
      (B g : ℕ) → g ≤ B → (T₀ T : List (Row L)) (d : Row L) (Listed : ℕ → ℕ → Type 0) → Covered K B (length T₀) T₀ d Listed
      → ((p j : ℕ) → p < j → j < length T₀ → Listed p j → grade (join (get_or T₀ p d).head (get_or T₀ j d).head) ≡ g
      → nf K T ((get_or T₀ p d).tail ⊕ (join_left (get_or T₀ p d).head (get_or T₀ j d).head).0) ≡ nf K T ((get_or T₀ j d).tail ⊕ (join_right (get_or T₀ p d).head (get_or T₀ j d).head).0))
      → Pivots K g T₀ T d Listed
  covered_pivots B g l T₀ T d Listed h tr = record {
    pivot = λ i j k m q. h i j k m (omega arith);
    treated = λ p j k m w q. joined_sides K T (get_or T₀ p d) (get_or T₀ j d) (tr p j k m w q);
  }
