-- One line written after others, on any paper. Assumes nothing.
use Rattle.std.proofs.Common.{ℕ, ◌+◌, ◌≡◌, sym, subst, List, [], ◌++◌, add-one}
use Rattle.report.specs.Report.{Lines, none, more, Written}

module _ (Paper : Type 0) (Stored : List ℕ → Paper → Paper → Type 0) where
  pub written_none : (Line : ℕ → List ℕ → Type 0) (o : Paper) → Stored [] o o → Written Stored (Lines Line 0) o o
  written_none Line o p = record { bytes = []; right = none; stored = p }

  -- the lines of the first k items, and then that of item k
  pub written_next : ((a b : List ℕ) (o p q : Paper) → Stored a o p → Stored b p q → Stored (a ++ b) o q) → (Line : ℕ → List ℕ → Type 0) (k : ℕ) (o o' o'' : Paper) → Written Stored (Lines Line k) o o' → Written Stored (Line k) o' o'' → Written Stored (Lines Line (k + 1)) o o''
  written_next both Line k o o' o'' p q = record {
    bytes = p.bytes ++ q.bytes;
    right = subst (λ (n : ℕ). Lines Line n (p.bytes ++ q.bytes)) (sym (add-one k)) (more p.right q.right);
    stored = both p.bytes q.bytes o o' o'' p.stored q.stored;
  }

  -- a line of x is one of y where x is y
  pub written_of : (Line : List ℕ → List ℕ → Type 0) {x y : List ℕ} (o o' : Paper) → x ≡ y → Written Stored (Line x) o o' → Written Stored (Line y) o o'
  written_of Line o o' e p = subst (λ (x : List ℕ). Written Stored (Line x) o o') e p
