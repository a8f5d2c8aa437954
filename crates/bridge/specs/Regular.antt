-- What the theory asks of a relation of loads, in the words of lists; what loads reach by a sheet is such a relation.
-- Assumes nothing.
use Rattle.std.specs.Prelude.{ℕ, ◌≡◌, List, length, ℤ}
use Rattle.std.proofs.Common.{subst}
use Rattle.terms.specs.Load.{plus, grade}
use Rattle.terms.specs.Swaps.{Swap, Reaches}
use Rattle.laws.specs.Load.{From}
use Rattle.laws.specs.Order.{before_laws}
use Rattle.theory.specs.Kit.{Kit}
use Rattle.theory.specs.Table.{Alike}
use Rattle.theory.specs.Reach.{Reach}
use Rattle.theory.specs.Complete.{Swap as Given, sheet_alike}
use Rattle.bridge.specs.Instance.{Load, sum, the_kit}
use Rattle.bridge.specs.Rows.{IsSheet, loads_sheet, plain_loads_sheet, loads_even}
use Rattle.bridge.specs.Tables.{Matches, sheet_matches}

-- the sizes of a kit of n kinds: each is at least 1
pub record IsKit (n : ℕ) (sizes : List ℕ) : Type 0 where
  pub of_sizes : length sizes ≡ n
  pub from_one : From 1 sizes

-- an equivalence of loads of n counts that keeps the grade, and that adding one load to both sides keeps
pub record Regular (n : ℕ) (sizes : List ℕ) (reach : List ℕ → List ℕ → Type 0) : Type 0 where
  pub keeps : {x y : List ℕ} → length x ≡ n → reach x y → length y ≡ n
  pub stays : {x : List ℕ} → length x ≡ n → reach x x
  pub turns : {x y : List ℕ} → length x ≡ n → reach x y → reach y x
  pub joins : {x y z : List ℕ} → length x ≡ n → reach x y → reach y z → reach x z
  pub adds : {x y : List ℕ} (c : List ℕ) → length x ≡ n → length c ≡ n → reach x y → reach (plus x c) (plus y c)
  pub weighs : {x y : List ℕ} → length x ≡ n → reach x y → grade sizes x ≡ grade sizes y

-- the relation of the theory's loads that a relation of lists is
abbrev pub OfLoads : {n : ℕ} → (List ℕ → List ℕ → Type 0) → Load n → Load n → Type 0
OfLoads reach x y = reach x.0 y.0

-- the kit of lists with the cost order
abbrev pub loads_kit : {n : ℕ} {sizes : List ℕ} (costs : List ℤ) → IsKit n sizes → Kit
loads_kit {n} {sizes} costs kit = the_kit n sizes kit.of_sizes kit.from_one costs (before_laws costs n)

module _ {n : ℕ} {sizes : List ℕ} (costs : List ℤ) (kit : IsKit n sizes) where
  -- a relation of lists that matches one of the theory's is regular
  pub match_regular : {reach : List ℕ → List ℕ → Type 0} {R : Load n → Load n → Type 0} → Alike (loads_kit costs kit) R → Matches n reach R → Regular n sizes reach
  match_regular eqv match = record {
    keeps = match.keeps;
    stays = λ {x = x} e. match.from (x, e) (x, e) (eqv.rel_refl (x, e));
    turns = λ {x = x} {y = y} e r.
        let y' : Load n = (y, match.keeps e r) in
        match.from y' (x, e) (eqv.rel_sym (x, e) y' (match.into (x, e) y' r));
    joins = λ {x = x} {y = y} {z = z} e r s.
        let y' : Load n = (y, match.keeps e r) in
        let z' : Load n = (z, match.keeps (match.keeps e r) s) in
        match.from (x, e) z' (eqv.rel_trans (x, e) y' z' (match.into (x, e) y' r) (match.into y' z' s));
    adds = λ {x = x} {y = y} c e d r.
        let y' : Load n = (y, match.keeps e r) in
        let c' : Load n = (c, d) in
        match.from (sum (x, e) c') (sum y' c') (eqv.rel_⊕ (x, e) y' c' (match.into (x, e) y' r));
    weighs = λ {x = x} {y = y} e r.
        let y' : Load n = (y, match.keeps e r) in
        eqv.rel_grade (x, e) y' (match.into (x, e) y' r);
  }

  pub regular_alike : {reach : List ℕ → List ℕ → Type 0} → Regular n sizes reach → Alike (loads_kit costs kit) (OfLoads reach)
  regular_alike reg = record {
    rel_refl = λ x. reg.stays x.1;
    rel_sym = λ x y r. reg.turns x.1 r;
    rel_trans = λ x y z r s. reg.joins x.1 r s;
    rel_⊕ = λ x y c r. reg.adds c.0 x.1 c.1 r;
    rel_grade = λ x y r. reg.weighs x.1 r;
  }

pub regular_matches : {n : ℕ} {sizes : List ℕ} {reach : List ℕ → List ℕ → Type 0} → Regular n sizes reach → Matches n reach (OfLoads reach)
regular_matches reg = record { keeps = reg.keeps; into = λ x y r. r; from = λ x y r. r }

module _ {n : ℕ} {sizes : List ℕ} (costs : List ℤ) (kit : IsKit n sizes) (sheet : List Swap) (swaps : IsSheet n sizes sheet) where
  -- what the theory's loads reach by the sheet
  abbrev pub ReachOf : Load n → Load n → Type 0
  ReachOf = Reach (loads_kit costs kit) (Given (loads_kit costs kit) (loads_sheet sizes sheet swaps))

  pub reaches_alike : Alike (loads_kit costs kit) ReachOf
  reaches_alike = sheet_alike (loads_kit costs kit) (loads_sheet sizes sheet swaps) (loads_even sizes sheet swaps)

  pub reaches_matches : Matches n (Reaches sheet) ReachOf
  reaches_matches =
      subst (λ (l : List Swap). Matches n (Reaches l) ReachOf) (plain_loads_sheet sizes sheet swaps) (sheet_matches n sizes kit.of_sizes kit.from_one costs (before_laws costs n) (loads_sheet sizes sheet swaps))

  pub reaches_regular : Regular n sizes (Reaches sheet)
  reaches_regular = match_regular costs kit reaches_alike reaches_matches
