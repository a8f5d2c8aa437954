-- What the functions over one line answer, from the row that was read. Assumes nothing.
use Rattle.std.specs.Prelude.{ℕ, zero, suc, ◌+◌, ◌-◌, ◌*◌, min, ◌≤◌, ◌<◌, ◌≡◌, List, [], ◌∷◌, ◌++◌, Bool, true, false, cond, not, ◌&&◌, leb, ltb, eqb, ℤ, length, get_or, take, drop, Option, Some, Result, Ok, Err, ⊤, refl}
use Rattle.std.proofs.Common.{ap, sym, ◌∙◌, inl, inr, arith, le-leb, leb-true, lt-ltb, le-ltb, ltb-true, eq-eqb, eqb-true, take_at, drop_at, drop_of_length-le, length-drop, length-take-le, append-nil, take-take, drop-drop, mul-le-mul_right, add-mul, one-mul, zero-add, suc-add}
use Rattle.std.proofs.Math.ListN.{get_or-map}
use Rattle.std.proofs.Math.Seq.{take-nil}
use Rattle.std.proofs.lemmas.Slice.{take-put_mid_below}
use borrow.Rule.Slice.PartMut.{put_mid}
use Rattle.terms.specs.declared.Kit.{Kit}
use Rattle.terms.specs.declared.Refusal.{Refusal}
use Rattle.terms.specs.declared.Refusal.TheVariants.{Kinds, Bound, Length, Cost, SameSides, UnequalGrades, BadLine, BigCount}
use Rattle.terms.specs.declared.Refused.{Refused}
use Rattle.terms.specs.Answers.{refuse}
use Rattle.terms.specs.Outcome.{Outcome}
use Rattle.loads.specs.KitTests.{kit_tests}
use Rattle.sides.specs.Fine.{side_tests}
use Rattle.terms.specs.Load.{grade}
use Rattle.terms.specs.Flat.{left_at, right_at}
use Rattle.texts.specs.Number.{number_of, cap}
use Rattle.lines.specs.declared.Word.{Word}
use Rattle.lines.specs.Fields.{same, number_of_word}
use Rattle.shapes.specs.Split.{Got, fine, wrong, first, rest, shaped, read_line, cost_of}
use Rattle.shapes.specs.Rows.{code_of, numbers_got, step_got}
use Rattle.shapes.proofs.Unnamed.{none_read}
use Rattle.records.specs.Lines.{Pieces, after, ask, all, within, kit_of, kit_line, cost_fine, cost_line, counts_line, sides_of}
use Rattle.records.specs.Steps.{Stored, Coded, sides_step}
use Rattle.records.proofs.Codes.{shut, plain_line, code, cost_codes, kept, not_read, out_of_range, in_range, plain}

-- ## A line that is not read

-- a line without a minus
module _ (line w k n : ℕ) (ps : Pieces) (r : Result (Option ℕ) Refused) (out s : List ℕ) (long : k ≡ n) (said : read_line line (shaped w (code_of false) k) ps ≡ step_got line r out s) where
  plain_said : read_line line (shaped w (code_of false) n) ps ≡ step_got line r out s
  plain_said = ap (λ (m : ℕ). read_line line (shaped w (code_of false) m) ps) (sym long) ∙ said

  pub plain_shut : ((next : ℕ) → r ≡ Ok (Some next) → ⊥) → read_line line (shaped w number_of n) ps ≡ wrong BadLine line
  plain_shut h = shut (min cap) line (shaped w number_of n (first ps)) (rest ps) r out s (sym (plain_line line w n ps) ∙ plain_said) h

-- the cost line
module _ (k n : ℕ) (ps : Pieces) (r : Result (Option ℕ) Refused) (out s : List ℕ) (long : k ≡ n) (said : read_line 3 (shaped 2 (code_of true) k) ps ≡ step_got 3 r out s) where
  costs_said : read_line 3 (shaped 2 (code_of true) n) ps ≡ step_got 3 r out s
  costs_said = ap (λ (m : ℕ). read_line 3 (shaped 2 (code_of true) m) ps) (sym long) ∙ said

  pub costs_shut : ((next : ℕ) → r ≡ Ok (Some next) → ⊥) → cost_line n ps ≡ wrong BadLine 3
  costs_shut h = ap (λ (g : Got (List ℤ × Pieces)). after g (λ r. ask (all cost_fine r.0) Cost 3 (fine r))) (shut code 3 (shaped 2 cost_of n (first ps)) (rest ps) r out s (sym (cost_codes 3 2 n ps) ∙ costs_said) h)

-- ## The kit line

module _ (ps : Pieces) (row : List ℕ) (q : Pieces) (e : read_line 1 (shaped 0 (code_of false) 2) ps ≡ fine (row, q)) (n b : ℕ) (en : n ≡ get_or row 0 0) (eb : b ≡ get_or row 1 0) where
  abbrev coded : Coded false number_of (within 0 1000) (λ v. v) 0 1000
  coded = plain 0 1000 (omega arith) (omega arith)

  abbrev vs : List ℕ
  vs = (kept coded 1 0 2 2 refl ps row q e).0

  at_cap : (i : ℕ) → get_or row i 0 ≡ min cap (get_or vs i 0)
  at_cap i = ap (λ (l : List ℕ). get_or l i 0) (sym (kept coded 1 0 2 2 refl ps row q e).1.codes) ∙ get_or-map (min cap) vs i 0

  kit_read : kit_line ps ≡ kit_of (get_or vs 0 0) (get_or vs 1 0) q
  kit_read = ap (λ (g : Got (List ℕ × Pieces)). after g (λ r. kit_of (get_or r.0 0 0) (get_or r.0 1 0) r.1)) (kept coded 1 0 2 2 refl ps row q e).1.read

  -- a number that passes is not held at cap
  module _ (most v w : ℕ) (h : most < cap) (c : w ≡ min cap v) where
    capped : within 1 most v ≡ within 1 most w
    capped = rw c (sym ((plain 1 most (omega arith) h).in_range v))

    uncapped : within 1 most w ≡ true → v ≡ w
    uncapped t = sym (c ∙ (plain 1 most (omega arith) h).back v (capped ∙ t))

  pub kit_tested : kit_line ps ≡ kit_of n b q
  kit_tested =
      let x = en ∙ at_cap 0 in
      let y = eb ∙ at_cap 1 in
      kit_read ∙ rw (capped 12 (get_or vs 0 0) n (omega arith) x, capped 1000 (get_or vs 1 0) b (omega arith) y) (go (within 1 12 n) (within 1 1000 b) (uncapped 12 (get_or vs 0 0) n (omega arith) x) (uncapped 1000 (get_or vs 1 0) b (omega arith) y))
    where
      go : (t u : Bool) → (t ≡ true → get_or vs 0 0 ≡ n) → (u ≡ true → get_or vs 1 0 ≡ b)
          → ask {A = Kit × Pieces} t Kinds 1 (ask {A = Kit × Pieces} u Bound 1 (fine (record { kinds = get_or vs 0 0; bound = get_or vs 1 0 }, q))) ≡ ask t Kinds 1 (ask {A = Kit × Pieces} u Bound 1 (fine (record { kinds = n; bound = b }, q)))
      go true true f g = rw (f refl, g refl)
      go true false f g = refl
      go false u f g = refl

-- what a test answers of what was read: that, where it passes
abbrev pub judged_got : {A : Type 0} → Result ⊤ Refused → A → Got A
judged_got (Ok u) r = fine r
judged_got (Err refused) r = wrong refused.why refused.place

fine_within : (most v : ℕ) → (1 ≤ v) × (v ≤ most) → within 1 most v ≡ true
fine_within most v h = rw (le-leb 1 v h.0, le-leb v most h.1)

not_within : (most v : ℕ) → ((1 ≤ v) × (v ≤ most) → ⊥) → within 1 most v ≡ false
not_within most v h = go (leb 1 v) refl (leb v most) refl
  where
    go : (t : Bool) → leb 1 v ≡ t → (u : Bool) → leb v most ≡ u → (t && u) ≡ false
    go true e true f = absurd (h (leb-true 1 v e, leb-true v most f))
    go true e false f = refl
    go false e u f = refl

pub kit_judged : (n b : ℕ) (q : Pieces) (r : Result ⊤ Refused) → Outcome (λ r. r ≡ Ok tt) (kit_tests n b 1) r → kit_of n b q ≡ judged_got r (record { kinds = n; bound = b }, q)
kit_judged n b q r (inl f) = rw (not_within 12 n f.0, f.1)
kit_judged n b q r (inr (k, inl f)) = rw (fine_within 12 n k, not_within 1000 b f.0, f.1)
kit_judged n b q r (inr (k, inr (c, d))) = rw (fine_within 12 n k, fine_within 1000 b c, d)

-- ## Sizes and costs

-- what is stored in the front of a buffer stands there
pub fronted : {A : Type 0} (says : ℕ → Got (List A × Pieces)) (r : Result ℕ Refused) (text : List ℕ) (n k : ℕ) (table after : List A) → says k ≡ numbers_got r table text → length table ≡ k → k ≡ n
    → says n ≡ numbers_got r (take n (table ++ after)) text
fronted says r text n k table after e l h =
    ap says (sym h) ∙ (e ∙ ap (λ (t : List _). numbers_got r t text) (sym (take_at table after n (l ∙ h))))

-- ## Counts

module _ (line w width used room k : ℕ) (long : k ≡ width) (ps : Pieces) where
  abbrev counting : Coded false number_of (within 0 65535) (λ v. v) 0 65535
  counting = plain 0 65535 (omega arith) (omega arith)

  abbrev Counted : Got (List ℕ × Pieces)
  Counted = read_line line (shaped w (code_of false) k) ps

  abbrev Tested : List ℕ × Pieces → Got (List ℕ × Pieces)
  Tested r = ask (ltb used room) Length line (ask (all (within 0 65535) r.0) BigCount line (fine r))

  pub counts_wrong : (why : Refusal) (place : ℕ) → Counted ≡ wrong why place → counts_line line w width used room ps ≡ wrong why place
  counts_wrong why place e = ap (λ (g : Got (List ℕ × Pieces)). after g Tested) (not_read counting line w width k long ps why place e)

  module _ (row : List ℕ) (q : Pieces) (e : Counted ≡ fine (row, q)) where
    pub counts_full : room ≤ used → counts_line line w width used room ps ≡ wrong Length line
    counts_full h = ap (λ (g : Got (List ℕ × Pieces)). after g Tested) (kept counting line w width k long ps row q e).1.read ∙ rw (le-ltb used room h)

    module _ (h : used < room) (r : Bool) (part : List ℕ) (s : Stored (λ v. v) 0 65535 row r part) where
      pub counts_big : r ≡ false → counts_line line w width used room ps ≡ wrong BigCount line
      counts_big f = rw (lt-ltb used room h) (out_of_range counting line w width k long ps row q e BigCount line r part s f)

      pub counts_fine : r ≡ true → (before table : List ℕ) → length row ≡ width → width ≤ length part → length before ≡ used * width → table ≡ before ++ part → counts_line line w width used room ps ≡ fine (take width (drop (used * width) table), q)
      counts_fine f before table l m n t =
          let z : take (length row) part ≡ take width (drop (used * width) table) = ap (λ (m : ℕ). take m part) l ∙ sym (ap (λ (x : List ℕ). take width (drop (used * width) x)) t ∙ ap (take width) (drop_at before part (used * width) n)) in
          rw (lt-ltb used room h) (in_range counting line w width k long ps row q e BigCount line r part s f) ∙ ap (λ (x : List ℕ). fine (x, q)) z

-- a record more is within the table
pub record_in : (used room width len : ℕ) → used < room → room * width ≤ len → used * width + width ≤ len
record_in used room width len h k = omega (arith, mul-le-mul_right width h, add-mul used 1 width, one-mul width)

-- a record that is accepted had room
pub had_room : (line w width used room : ℕ) (ps : Pieces) (r : List ℕ × Pieces) → counts_line line w width used room ps ≡ fine r → used < room
had_room line w width used room ps r e = go (read_line line (shaped w number_of width) ps) (ltb used room) refl e
  where
    go : (g : Got (List ℕ × Pieces)) (t : Bool) → ltb used room ≡ t → after g (λ r. ask t Length line (ask (all (within 0 65535) r.0) BigCount line (fine r))) ≡ fine r → used < room
    go (fine x) true h e = ltb-true used room h
    go (fine x) false h e = cc
    go (wrong reason at) t h e = cc

-- a line of counts whose word is none
pub none_counted : (line w width used room : ℕ) → ((word : Word) → number_of_word word ≡ w → ⊥) → (ps : Pieces) → counts_line line w width used room ps ≡ wrong BadLine line
none_counted line w width used room unnamed ps =
    ap (λ (g : Got (List ℕ × Pieces)). after g (λ r. ask (ltb used room) Length line (ask (all (within 0 65535) r.0) BigCount line (fine r)))) (none_read line w width number_of unnamed ps)

-- a part of a table from a place on, written anew
module _ (at : ℕ) (table part : List ℕ) (h : at ≤ length table) where
  pub written_kept : take at (put_mid at (length table - at) table part) ≡ take at table
  written_kept = take-put_mid_below at (length table - at) table part at (omega arith) h

  module _ (l : length part ≡ length (take (length table - at) (drop at table))) where
    pub part_long : at + length part ≡ length table
    part_long = omega (arith, l, length-take-le (length table - at) (drop at table) (omega (arith, length-drop at table)))

    pub written_after : put_mid at (length table - at) table part ≡ take at table ++ part
    written_after =
        let z : drop (length table - at) (drop at table) ≡ [] = drop_of_length-le (drop at table) (omega (arith, length-drop at table)) in
        rw z (ap (λ (x : List ℕ). take at table ++ x) (append-nil part))

-- ## The sides of a swap

same_refl : (x : List ℕ) → same x x ≡ true
unfolding same
same_refl [] = refl
same_refl (a ∷ x) = rw (eq-eqb a a refl) (same_refl x)

same_is : (x y : List ℕ) → same x y ≡ true → x ≡ y
unfolding same
same_is [] [] e = refl
same_is [] (b ∷ y) e = cc
same_is (a ∷ x) [] e = cc
same_is (a ∷ x) (b ∷ y) e = go (eqb a b) refl (same_is x y) e
  where
    go : (t : Bool) → eqb a b ≡ t → (same x y ≡ true → x ≡ y) → cond t (same x y) false ≡ true → a ∷ x ≡ b ∷ y
    go true h ih e = let p = eqb-true a b h in let q = ih e in cc
    go false h ih e = cc

-- the tests of a swap answer what its sides ask
pub judged : (line : ℕ) (sizes left right : List ℕ) (r : Result ⊤ Refused) → Outcome (λ r. r ≡ Ok tt) (side_tests sizes (record { left = left; right = right }) line) r → r ≡ sides_step line sizes left right
judged line sizes left right r o = go (same left right) refl (eqb (grade sizes left) (grade sizes right)) refl o
  where
    go : (s : Bool) → same left right ≡ s → (t : Bool) → eqb (grade sizes left) (grade sizes right) ≡ t → Outcome (λ r. r ≡ Ok tt) (side_tests sizes (record { left = left; right = right }) line) r
        → r ≡ cond s (refuse SameSides line) (cond t (Ok tt) (refuse UnequalGrades line))
    go true e t h (inl f) = f.1
    go true e t h (inr (u, a)) = absurd (u (same_is left right e))
    go false e t h (inl f) = absurd (f.0 (λ q. let z = ap (λ (l : List ℕ). same l right) q ∙ same_refl right in cc))
    go false e true h (inr (u, inl f)) = absurd (f.0 (eqb-true (grade sizes left) (grade sizes right) h))
    go false e false h (inr (u, inl f)) = f.1
    go false e true h (inr (u, inr (v, d))) = d
    go false e false h (inr (u, inr (v, d))) = let z = eq-eqb (grade sizes left) (grade sizes right) v in cc

-- the two halves of a record of 2n counts
drop_take : {A : Type 0} (n m : ℕ) (l : List A) → drop n (take (n + m) l) ≡ take m (drop n l)
drop_take zero m l = ap (λ (k : ℕ). take k l) (zero-add m)
drop_take (suc n) m [] = ap (λ (k : ℕ). drop (suc n) (take k [])) (suc-add n m) ∙ sym (take-nil m)
drop_take (suc n) m (x ∷ l) = ap (λ (k : ℕ). drop (suc n) (take k (x ∷ l))) (suc-add n m) ∙ drop_take n m l

halves : (n at : ℕ) (l : List ℕ) → (take n (take (2 * n) (drop at l)) ≡ take n (drop at l)) × (drop n (take (2 * n) (drop at l)) ≡ take n (drop (at + n) l))
halves n at l = (
  take-take n (2 * n) (drop at l) (omega arith),
  ap (λ (k : ℕ). drop n (take k (drop at l))) (two n) ∙ (drop_take n n (drop at l) ∙ ap (take n) (drop-drop n at l)),
)
  where
    two : (n : ℕ) → 2 * n ≡ n + n
    two n = omega arith

-- what is asked of the sides is what judging answers
by_sides : (line : ℕ) (r : List ℕ × Pieces) (t u : Bool) → ask (not t) SameSides line (ask u UnequalGrades line (fine r)) ≡ judged_got (cond t (refuse SameSides line) (cond u (Ok tt) (refuse UnequalGrades line))) r
by_sides line r true u = refl
by_sides line r false true = refl
by_sides line r false false = refl

-- what a swap asks of its counts
abbrev pub sided : ℕ → ℕ → List ℕ → Got (List ℕ × Pieces) → Got (List ℕ × Pieces)
sided line n sizes g = after g (sides_of line n sizes)

pub swap_sides : (line n used : ℕ) (sizes table : List ℕ) (q : Pieces) → sides_of line n sizes (take (2 * n) (drop (used * (2 * n)) table), q) ≡ judged_got (sides_step line sizes (left_at n table used) (right_at n table used)) (take (2 * n) (drop (used * (2 * n)) table), q)
swap_sides line n used sizes table q =
    let h = halves n (used * (2 * n)) table in
    rw (h.0, h.1) (by_sides line (take (2 * n) (drop (used * (2 * n)) table), q) (same (left_at n table used) (right_at n table used)) (eqb (grade sizes (left_at n table used)) (grade sizes (right_at n table used))))
