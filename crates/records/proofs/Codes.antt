-- Numbers that a row keeps by their codes: held at cap, a cost by its distance above -cap. Assumes nothing.
use Rattle.std.specs.Prelude.{ℕ, zero, suc, ◌+◌, ◌-◌, min, ◌≤◌, ◌<◌, ◌≡◌, List, [], ◌∷◌, map, Bool, true, false, cond, ◌&&◌, leb, eqb, ℤ, pos, negsuc, length, take, replicate, Some, None, Ok, Err, refl}
use Rattle.std.specs.Prelude as std
use Rattle.std.proofs.Common.{ap, sym, ◌∙◌, arith, leb-true, leb-false, le-leb, eqb-true, ne_eqb, length-take-le}
use Rattle.std.proofs.Math.Option.{Option, none, some}
use Rattle.std.proofs.Math.Option as option
use Rattle.laws.specs.Signed as signed
use Rattle.terms.specs.declared.Refusal.{Refusal}
use Rattle.terms.specs.declared.Refusal.TheVariants.{BadLine}
use Rattle.terms.specs.declared.Refused.{Refused}
use Rattle.texts.specs.Number.{number_of, digits, cap}
use Rattle.shapes.specs.Split.{Got, fine, wrong, split, first, rest, joined, numbers, shaped, lined, read_line, less, more, cost_of}
use Rattle.shapes.specs.Rows.{less_code, more_code, code_of, step_got}
use Rattle.records.specs.Lines.{Pieces, after, ask, all, within, cost_fine}
use Rattle.records.specs.Steps.{Stored, Coded, cost_from}

-- ## The row that the program keeps of the numbers of a line

abbrev map_g : {A B : Type 0} → (A → B) → Got (List A × Pieces) → Got (List B × Pieces)
map_g f (fine r) = fine (map f r.0, r.1)
map_g f (wrong reason at) = wrong reason at

module _ {A B : Type 0} (f : A → B) where
  map_joined : (o : Option A) (v : Option (List A)) → joined (option.map f o) (option.map (map f) v) ≡ option.map (map f) (joined o v)
  map_joined none v = refl
  map_joined (some a) none = refl
  map_joined (some a) (some v) = refl

  map_lined : (at : ℕ) (o : Option (List A)) (ps : Pieces) → lined at (option.map (map f) o) ps ≡ map_g f (lined at o ps)
  map_lined at o [] = refl
  map_lined at none (p ∷ ps) = refl
  map_lined at (some v) (p ∷ ps) = refl

  map_pick : (t : Bool) (o : Option (List A)) → cond t (option.map (map f) o) none ≡ option.map (map f) (cond t o none)
  map_pick true o = refl
  map_pick false o = refl

  module _ (num : List ℕ → Option A) (kept : List ℕ → Option B) (same : (p : List ℕ) → kept p ≡ option.map f (num p)) where
    map_numbers : (k : ℕ) (fs : Pieces) → numbers kept k fs ≡ option.map (map f) (numbers num k fs)
    unfolding numbers
    map_numbers zero [] = refl
    map_numbers zero (p ∷ fs) = refl
    map_numbers (suc k) [] = refl
    map_numbers (suc k) (p ∷ fs) = rw (same p, map_numbers k fs) (map_joined (num p) (numbers num k fs))

    map_line : (at w k : ℕ) (ps : Pieces) → read_line at (shaped w kept k) ps ≡ map_g f (read_line at (shaped w num k) ps)
    map_line at w k ps =
        rw (map_numbers k (rest (split 9 (first ps))), map_pick) (map_lined at (shaped w num k (first ps)) (rest ps))

  -- a line that is not read is misshapen
  pub shut : (at : ℕ) (o : Option (List A)) (ps : Pieces) (r : std.Result (std.Option ℕ) Refused) (row : List B) (s : List ℕ) → map_g f (lined at o ps) ≡ step_got at r row s → ((next : ℕ) → r ≡ Ok (Some next) → ⊥) → lined at o ps ≡ wrong BadLine at
  shut at o [] r row s e h = refl
  shut at none (p ∷ ps) r row s e h = refl
  shut at (some v) (p ∷ ps) (Ok (Some next)) row s e h = absurd (h next refl)
  shut at (some v) (p ∷ ps) (Ok None) row s e h = cc
  shut at (some v) (p ∷ ps) (Err refused) row s e h = cc

-- ## A line of coded numbers

module _ {A : Type 0} {signed : Bool} {num : List ℕ → Option A} {test : A → Bool} {reads : ℕ → A} {least most : ℕ} (coded : Coded signed num test reads least most) where
  codes_in : (vs : List A) → all (within least most) (map coded.code vs) ≡ all test vs
  unfolding all
  codes_in [] = refl
  codes_in (v ∷ vs) = rw (coded.in_range v, codes_in vs)

  codes_off : (vs : List A) → all test vs ≡ true → map reads (map coded.code vs) ≡ vs
  unfolding all
  codes_off [] e = refl
  codes_off (v ∷ vs) e = go (test v) refl (codes_off vs) e
    where
      go : (t : Bool) → test v ≡ t → (all test vs ≡ true → map reads (map coded.code vs) ≡ vs) → cond t (all test vs) false ≡ true → map reads (map coded.code (v ∷ vs)) ≡ v ∷ vs
      go true f h e = rw (coded.back v f, h e)
      go false f h e = cc

  module _ (line w n k : ℕ) (long : k ≡ n) (ps : Pieces) where
    abbrev Read : Got (List A × Pieces)
    Read = read_line line (shaped w num n) ps

    -- the same line, as the row keeps it
    abbrev Row : Got (List ℕ × Pieces)
    Row = read_line line (shaped w (code_of signed) k) ps

    row_is : Row ≡ map_g coded.code Read
    row_is = ap (λ (m : ℕ). read_line line (shaped w (code_of signed) m) ps) long ∙ map_line coded.code num (code_of signed) coded.keeps line w n ps

    -- a row that is not read
    pub not_read : (why : Refusal) (place : ℕ) → Row ≡ wrong why place → Read ≡ wrong why place
    not_read why place e = go Read (sym row_is ∙ e)
      where
        go : (g : Got (List A × Pieces)) → map_g coded.code g ≡ wrong why place → g ≡ wrong why place
        go (fine r) e = cc
        go (wrong reason at) e = cc

    -- a row that is read and stored
    module _ (row : List ℕ) (q : Pieces) (e : Row ≡ fine (row, q)) where
      pub record Kept (vs : List A) : Type 0 where
        pub read : Read ≡ fine (vs, q)
        pub codes : map coded.code vs ≡ row

      pub kept : (vs : List A) × Kept vs
      kept = go Read refl (sym row_is ∙ e)
        where
          go : (g : Got (List A × Pieces)) → Read ≡ g → map_g coded.code g ≡ fine (row, q) → (vs : List A) × Kept vs
          go (fine x) h e =
              let p : ◌≡◌ {A = List ℕ × Pieces} (map coded.code x.0, x.1) (row, q) = cc in
              (x.0, record { read = h ∙ ap (λ (y : Pieces). fine (x.0, y)) (ap (λ (y : List ℕ × Pieces). y.1) p); codes = ap (λ (y : List ℕ × Pieces). y.0) p })
          go (wrong reason line) h e = cc

      module _ (why : Refusal) (at : ℕ) (r : Bool) (table : List A) (s : Stored reads least most row r table) where
        abbrev Tested : Got (List A × Pieces)
        Tested = after Read (λ r. ask (all test r.0) why at (fine r))

        says : r ≡ all test kept.0
        says = s.says ∙ (ap (all (within least most)) (sym kept.1.codes) ∙ codes_in kept.0)

        pub out_of_range : r ≡ false → Tested ≡ wrong why at
        out_of_range f = rw (kept.1.read, sym says ∙ f)

        pub in_range : r ≡ true → Tested ≡ fine (take (length row) table, q)
        in_range f =
            let t = sym says ∙ f in
            rw (kept.1.read, t) (ap (λ (l : List A). fine (l, q)) (sym (s.put f ∙ (ap (map reads) (sym kept.1.codes) ∙ codes_off kept.0 t))))

-- the part of a new row of 12 or 24 numbers
pub part_of_12 : (n : ℕ) → n ≤ 12 → length {A = ℕ} (take n (replicate 12 0)) ≡ n
part_of_12 n h = length-take-le n (replicate 12 0) h

pub part_of_24 : (n : ℕ) → n ≤ 24 → length {A = ℕ} (take n (replicate 24 0)) ≡ n
part_of_24 n h = length-take-le n (replicate 24 0) h

-- ## Counts and sizes

-- a minus is no digit
no_digits : (p : List ℕ) → number_of (45 ∷ p) ≡ none
unfolding digits
no_digits p = refl

less_plain : (o : Option ℕ) → less_code false o ≡ none
less_plain none = refl
less_plain (some v) = go (eqb v 0)
  where
    go : (t : Bool) → cond {A = Option ℕ} t none none ≡ none
    go true = refl
    go false = refl

more_plain : (o : Option ℕ) → more_code false o ≡ option.map (min cap) o
more_plain none = refl
more_plain (some v) = refl

pub plain_code : (p : List ℕ) → code_of false p ≡ option.map (min cap) (number_of p)
unfolding digits
plain_code [] = refl
plain_code (b ∷ p) = go (eqb b 45) refl
  where
    go : (t : Bool) → eqb b 45 ≡ t → cond t (less_code false (number_of p)) (more_code false (number_of (b ∷ p))) ≡ option.map (min cap) (number_of (b ∷ p))
    go true e = less_plain (number_of p) ∙ sym (ap (option.map (min cap)) (ap (λ (x : ℕ). number_of (x ∷ p)) (eqb-true b 45 e) ∙ no_digits p))
    go false e = more_plain (number_of (b ∷ p))

-- the row that is kept of a line without a minus
pub plain_line : (at w k : ℕ) (ps : Pieces) → read_line at (shaped w (code_of false) k) ps ≡ map_g (min cap) (read_line at (shaped w number_of k) ps)
plain_line = map_line (min cap) number_of (code_of false) plain_code

pub leb_same : (a b c d : ℕ) → (a ≤ b → c ≤ d) → (c ≤ d → a ≤ b) → leb a b ≡ leb c d
leb_same a b c d f g = go (leb a b) refl (leb c d) refl
  where
    go : (t : Bool) → leb a b ≡ t → (u : Bool) → leb c d ≡ u → t ≡ u
    go true e true h = refl
    go true e false h = let z = leb-false c d h in let y = f (leb-true a b e) in absurd (omega arith)
    go false e true h = let z = leb-false a b e in let y = g (leb-true c d h) in absurd (omega arith)
    go false e false h = refl

pub and_right : (t u : Bool) → (t && u) ≡ true → u ≡ true
and_right true u e = e
and_right false u e = cc

abbrev pub plain : (least most : ℕ) → least ≤ cap → most < cap → Coded false number_of (within least most) (λ v. v) least most
plain least most l m =
    record {
      code = min cap;
      keeps = plain_code;
      in_range = λ v. rw (leb_same least (min cap v) least v (λ h. omega arith) (λ h. omega arith), leb_same (min cap v) most v most (λ h. omega arith) (λ h. omega arith));
      back = λ v e. let h = leb-true v most (and_right (leb least v) (leb v most) e) in omega arith;
    }

-- ## Costs

abbrev pub code : ℤ → ℕ
code (pos v) = cap + min cap v
code (negsuc v) = cap - min cap (suc v)

less_cost : (o : Option ℕ) → less_code true o ≡ option.map code (less o)
less_cost none = refl
less_cost (some zero) = refl
less_cost (some (suc v)) = rw (ne_eqb (suc v) 0 (λ e. omega arith))

more_cost : (o : Option ℕ) → more_code true o ≡ option.map code (more o)
more_cost none = refl
more_cost (some v) = refl

cost_code : (p : List ℕ) → code_of true p ≡ option.map code (cost_of p)
cost_code [] = refl
cost_code (b ∷ p) = go (eqb b 45)
  where
    go : (t : Bool) → cond t (less_code true (number_of p)) (more_code true (number_of (b ∷ p))) ≡ option.map code (cond t (less (number_of p)) (more (number_of (b ∷ p))))
    go true = less_cost (number_of p)
    go false = more_cost (number_of (b ∷ p))

-- the row that is kept of a line of costs
pub cost_codes : (at w k : ℕ) (ps : Pieces) → read_line at (shaped w (code_of true) k) ps ≡ map_g code (read_line at (shaped w cost_of k) ps)
cost_codes = map_line code cost_of (code_of true) cost_code

and_true : (t : Bool) → (t && true) ≡ t
and_true true = refl
and_true false = refl

code_fine : (z : ℤ) → within 9000000 11000000 (code z) ≡ cost_fine z
code_fine (pos v) = rw (le-leb 9000000 (cap + min cap v) (omega arith)) (leb_same (cap + min cap v) 11000000 v 1000000 (λ h. omega arith) (λ h. omega arith))
code_fine (negsuc v) = rw (le-leb (cap - min cap (suc v)) 11000000 (omega arith), and_true) (leb_same 9000000 (cap - min cap (suc v)) (suc v) 1000000 (λ h. omega arith) (λ h. omega arith))

code_back : (z : ℤ) → cost_fine z ≡ true → cost_from (code z) ≡ z
code_back (pos v) e =
    let h = leb-true v 1000000 e in
    signed.same (cost_from (cap + min cap v)) (pos v) (omega (arith, signed.minus_reads (pos (cap + min cap v)) (pos cap)))
code_back (negsuc v) e =
    let h = leb-true (suc v) 1000000 e in
    signed.same (cost_from (cap - min cap (suc v))) (negsuc v) (omega (arith, signed.minus_reads (pos (cap - min cap (suc v))) (pos cap)))

pub costs : Coded true cost_of cost_fine cost_from 9000000 11000000
costs = record { code = code; keeps = cost_code; in_range = code_fine; back = code_back }
