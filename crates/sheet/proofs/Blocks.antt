-- The swap lines and the load lines of a text, one turn of a loop a line. Assumes nothing.
use Rattle.std.specs.Prelude.{ℕ, zero, suc, ◌+◌, ◌*◌, ◌≤◌, ◌<◌, ◌≡◌, refl, List, [], ◌∷◌, ◌++◌, Bool, true, false, cond, not, ◌&&◌, ltb, eqb, Some, None, Result, Ok, Err, length, get_or, take, drop}
use Rattle.std.proofs.Common.{ap, sym, ◌∙◌, arith, add-zero, zero-mul, add-mul, one-mul, suc-add, zero-add, drop_of_length-le, drop-cons}
use Rattle.std.proofs.Math.Option.{Option, none, some}
use Rattle.std.proofs.Math.Seq.{take-nil}
use Rattle.std.specs.Prelude as std
use Rattle.terms.specs.declared.Refusal.{Refusal}
use Rattle.terms.specs.declared.Refused.{Refused}
use Rattle.terms.specs.declared.Refusal.TheVariants.{Length, BadLine, BigCount, SameSides, UnequalGrades}
use Rattle.terms.specs.Load.{grade}
use Rattle.texts.specs.Number.{number_of, piece, closed}
use Rattle.lines.specs.Fields.{word_of, same}
use Rattle.shapes.specs.Split.{Got, fine, wrong, split, first, rest, is_word, shaped, lined, read_line}
use Rattle.shapes.specs.Rows.{is_empty, step_got, is_other, begun_in}
use Rattle.shapes.proofs.Parted.{some_piece, begins, no_line}
use Rattle.records.specs.Lines.{Pieces, after, ask, all, within, counts_line, sides_of, swap_line}
use Rattle.records.specs.Steps.{Recorded}
use Rattle.records.proofs.Codes.{and_right}
use Rattle.records.proofs.Answers.{had_room}
use Rattle.sheet.specs.Sheet.{Records, load_lines, loads_after, swap_lines}

-- ## What is read of a line leaves the pieces after it

abbrev Leaves : {A : Type 0} → Pieces → Got (A × Pieces) → Type 0
Leaves q (fine r) = r.1 ≡ q
Leaves q (wrong reason at) = Unit {0}

leaves_lined : {A : Type 0} (at : ℕ) (o : Option A) (q : Pieces) → Leaves q (lined at o q)
leaves_lined at o [] = tt
leaves_lined at none (p ∷ ps) = tt
leaves_lined at (some a) (p ∷ ps) = refl

leaves_ask : {A : Type 0} (q : Pieces) (t : Bool) (reason : Refusal) (at : ℕ) (g : Got (A × Pieces)) → Leaves q g → Leaves q (ask t reason at g)
leaves_ask q true reason at g h = h
leaves_ask q false reason at g h = tt

leaves_after : {A B : Type 0} (q : Pieces) (g : Got (A × Pieces)) (f : A × Pieces → Got (B × Pieces)) → Leaves q g → ((r : A × Pieces) → r.1 ≡ q → Leaves q (f r)) → Leaves q (after g f)
leaves_after q (fine r) f h k = k r h
leaves_after q (wrong reason at) f h k = tt

leaves_counts : (line w width used room : ℕ) (ps : Pieces) → Leaves (rest ps) (counts_line line w width used room ps)
leaves_counts line w width used room ps =
    leaves_after (rest ps) (read_line line (shaped w number_of width) ps) _ (leaves_lined line (shaped w number_of width (first ps)) (rest ps))
    (λ r e. leaves_ask (rest ps) (ltb used room) Length line _ (leaves_ask (rest ps) (all (within 0 65535) r.0) BigCount line (fine r) e))

leaves_swap : (line n : ℕ) (sizes : List ℕ) (used : ℕ) (ps : Pieces) → Leaves (rest ps) (swap_line line n sizes used ps)
leaves_swap line n sizes used ps =
    leaves_after (rest ps) (counts_line line 3 (2 * n) used 64 ps) (sides_of line n sizes) (leaves_counts line 3 (2 * n) used 64 ps)
    (λ r e. leaves_ask (rest ps) (not (same (take n r.0) (drop n r.0))) SameSides line
    (ask (eqb (grade sizes (take n r.0)) (grade sizes (drop n r.0))) UnequalGrades line (fine r))
    (leaves_ask (rest ps) (eqb (grade sizes (take n r.0)) (grade sizes (drop n r.0))) UnequalGrades line (fine r) e))

-- so what follows may take them from either
from_either : {A B : Type 0} (q : Pieces) (g : Got (A × Pieces)) (f : A → Pieces → Got B) → Leaves q g → after g (λ r. f r.0 q) ≡ after g (λ r. f r.0 r.1)
from_either q (fine r) f h = ap (f r.0) (sym h)
from_either q (wrong reason at) f h = refl

-- ## A text that is not empty

first_plain : (b : ℕ) (l : List ℕ) → eqb b 10 ≡ false → is_empty (first (split 10 (b ∷ l))) ≡ false
unfolding split
first_plain b l e = rw (e, some_piece 10 l)

first_feed : (b : ℕ) (l : List ℕ) → eqb b 10 ≡ true → rest (split 10 (b ∷ l)) ≡ [] → ⊥
unfolding split
first_feed b l e r = let z = some_piece 10 l in let y : split 10 l ≡ [] = rw e at r in cc

by_byte : (b : ℕ) (l : List ℕ) (t : Bool) → eqb b 10 ≡ t → rest (split 10 (b ∷ l)) ≡ [] → is_empty (first (split 10 (b ∷ l))) ≡ false
by_byte b l true e r = absurd (first_feed b l e r)
by_byte b l false e r = first_plain b l e

-- a last piece that is all of a text is not empty
pub some_text : (s : List ℕ) (at : ℕ) → at < length s → rest (split 10 (drop at s)) ≡ [] → is_empty (first (split 10 (drop at s))) ≡ false
some_text s at h = rw (drop-cons s at 0 h) (by_byte (get_or s at 0) (drop (suc at) s) (eqb (get_or s at 0) 10) refl)

-- ## One line more

module _ (n from used : ℕ) (so : List ℕ) where
  load_line : (ps : Pieces) → (rest ps ≡ [] → is_empty (first ps) ≡ false) → load_lines n from used so ps ≡ after (counts_line (from + used) 4 n used 1024 ps) (λ r. load_lines n from (used + 1) (so ++ r.0) r.1)
  unfolding load_lines
  load_line [] h = refl
  load_line (p ∷ []) h = rw (h refl)
  load_line (l ∷ (m ∷ ls)) h =
      from_either (m ∷ ls) (counts_line (from + used) 4 n used 1024 (l ∷ (m ∷ ls))) (λ v q. load_lines n from (used + 1) (so ++ v) q) (leaves_counts (from + used) 4 n used 1024 (l ∷ (m ∷ ls)))

  pub no_loads : (s : List ℕ) (at : ℕ) → length s ≤ at → load_lines n from used so (split 10 (drop at s)) ≡ fine (record { number = used; counts = so })
  unfolding load_lines split
  no_loads s at h = rw (drop_of_length-le s h)

-- a piece that is no line is misplaced after the swaps
cut_loads : (n used : ℕ) (so p : List ℕ) → is_empty p ≡ false → loads_after n used so (p ∷ []) ≡ wrong BadLine (4 + used)
unfolding load_lines
cut_loads n used so p e = rw (e, add-zero)

module _ (n : ℕ) (sizes : List ℕ) (used : ℕ) (so : List ℕ) where
  swap_line_turn : (ps : Pieces) → is_word 3 (word_of (first (split 9 (first ps)))) ≡ true → (rest ps ≡ [] → is_empty (first ps) ≡ false) → (ps ≡ [] → ⊥)
      → swap_lines n sizes used so ps ≡ after (swap_line (4 + used) n sizes used ps) (λ r. swap_lines n sizes (used + 1) (so ++ r.0) r.1)
  unfolding swap_lines
  swap_line_turn [] w h k = absurd (k refl)
  swap_line_turn (p ∷ []) w h k = cut_loads n used so p (h refl)
  swap_line_turn (l ∷ (m ∷ ls)) w h k =
      ap (λ (t : Bool). cond t (after (swap_line (4 + used) n sizes used (l ∷ (m ∷ ls))) (λ r. swap_lines n sizes (used + 1) (so ++ r.0) (m ∷ ls))) (loads_after n used so (l ∷ (m ∷ ls)))) w
      ∙ from_either (m ∷ ls) (swap_line (4 + used) n sizes used (l ∷ (m ∷ ls))) (λ v q. swap_lines n sizes (used + 1) (so ++ v) q) (leaves_swap (4 + used) n sizes used (l ∷ (m ∷ ls)))

  no_swap : (ps : Pieces) → is_word 3 (word_of (first (split 9 (first ps)))) ≡ false → swap_lines n sizes used so ps ≡ loads_after n used so ps
  unfolding swap_lines
  no_swap [] w = refl
  no_swap (p ∷ []) w = refl
  no_swap (l ∷ (m ∷ ls)) w =
      ap (λ (t : Bool). cond t (after (swap_line (4 + used) n sizes used (l ∷ (m ∷ ls))) (λ r. swap_lines n sizes (used + 1) (so ++ r.0) (m ∷ ls))) (loads_after n used so (l ∷ (m ∷ ls)))) w

  no_line_swap : (ps : Pieces) → rest ps ≡ [] → swap_lines n sizes used so ps ≡ loads_after n used so ps
  unfolding swap_lines
  no_line_swap [] r = refl
  no_line_swap (p ∷ []) r = refl
  no_line_swap (l ∷ (m ∷ ls)) r = cc

  -- the word that begins the text is not swap
  pub other_word : (l : List ℕ) → begun_in 3 l ≡ false → swap_lines n sizes used so (split 10 l) ≡ loads_after n used so (split 10 l)
  other_word l e = go (closed l) refl e
    where
      go : (c : Bool) → closed l ≡ c → (c && is_word 3 (word_of (piece l))) ≡ false → swap_lines n sizes used so (split 10 l) ≡ loads_after n used so (split 10 l)
      go true c e = no_swap (split 10 l) (ap (λ (p : List ℕ). is_word 3 (word_of p)) (begins l).field ∙ e)
      go false c e = no_line_swap (split 10 l) (no_line l c)

  pub no_text : (s : List ℕ) (at : ℕ) → length s ≤ at → swap_lines n sizes used so (split 10 (drop at s)) ≡ loads_after n used so (split 10 (drop at s))
  unfolding closed
  no_text s at h = other_word (drop at s) (rw (drop_of_length-le s h))

some_pieces : (l : List ℕ) → split 10 l ≡ [] → ⊥
some_pieces l e = let z = some_piece 10 l in cc

not_begun : (b : Bool) → false ≡ not b → b ≡ true
not_begun true e = refl
not_begun false e = e

-- ## Records in a table

take_add : {A : Type 0} (a b : ℕ) (l : List A) → take (a + b) l ≡ take a l ++ take b (drop a l)
take_add zero b l = ap (λ (k : ℕ). take k l) (zero-add b)
take_add (suc a) b [] = ap (λ (k : ℕ). take k []) (suc-add a b) ∙ sym (take-nil b)
take_add (suc a) b (x ∷ l) = ap (λ (k : ℕ). take k (x ∷ l)) (suc-add a b) ∙ ap (λ (t : List _). x ∷ t) (take_add a b l)

one_more : (used width : ℕ) (before table : List ℕ) → take (used * width) table ≡ take (used * width) before → take ((used + 1) * width) table ≡ take (used * width) before ++ take width (drop (used * width) table)
one_more used width before table e = rw (add-mul used 1 width, one-mul width, take_add (used * width) width table, e)

pub none_yet : (width : ℕ) (table : List ℕ) → take (0 * width) table ≡ []
none_yet width table = rw (zero-mul width)

-- ## Turns of the loops

abbrev Step : Type 0
Step = Result (std.Option ℕ) Refused

-- a turn of the loads: the line at `at` is answered by r
module _ (n from used at : ℕ) (s before table : List ℕ) (r : Step) (h : at < length s)
    (rec : Recorded (from + used) 4 n used at s before (counts_line (from + used) 4 n used 1024 (split 10 (drop at s))) r table) where
  abbrev Now : Got Records
  Now = load_lines n from used (take (used * n) before) (split 10 (drop at s))

  load_said : Now ≡ after (step_got (from + used) r (take n (drop (used * n) table)) s) (λ x. load_lines n from (used + 1) (take (used * n) before ++ x.0) x.1)
  load_said =
      load_line n from used (take (used * n) before) (split 10 (drop at s)) (some_text s at h)
      ∙ ap (λ (g : Got (List ℕ × Pieces)). after g (λ x. load_lines n from (used + 1) (take (used * n) before ++ x.0) x.1)) rec.is

  pub load_on : (next : ℕ) → r ≡ Ok (Some next) → (used < 1024) × (load_lines n from (used + 1) (take ((used + 1) * n) table) (split 10 (drop next s)) ≡ Now)
  load_on next e = (
    had_room (from + used) 4 n used 1024 (split 10 (drop at s)) _ (rec.is ∙ ap (λ (q : Step). step_got (from + used) q (take n (drop (used * n) table)) s) e),
    ap (λ (c : List ℕ). load_lines n from (used + 1) c (split 10 (drop next s))) (one_more used n before table rec.kept)
        ∙ sym (load_said ∙ ap (λ (q : Step). after (step_got (from + used) q (take n (drop (used * n) table)) s) (λ x. load_lines n from (used + 1) (take (used * n) before ++ x.0) x.1)) e),
  )

  pub load_other : r ≡ Ok None → Now ≡ wrong BadLine (from + used)
  load_other e = load_said ∙ ap (λ (q : Step). after (step_got (from + used) q (take n (drop (used * n) table)) s) (λ x. load_lines n from (used + 1) (take (used * n) before ++ x.0) x.1)) e

  pub load_refused : (refused : Refused) → r ≡ Err refused → Now ≡ wrong refused.why refused.place
  load_refused refused e = load_said ∙ ap (λ (q : Step). after (step_got (from + used) q (take n (drop (used * n) table)) s) (λ x. load_lines n from (used + 1) (take (used * n) before ++ x.0) x.1)) e

-- a turn of the swaps
module _ (n : ℕ) (sizes : List ℕ) (used at : ℕ) (s before table : List ℕ) (r : Step) (h : at < length s)
    (rec : Recorded (4 + used) 3 (2 * n) used at s before (swap_line (4 + used) n sizes used (split 10 (drop at s))) r table) where
  abbrev So : List ℕ
  So = take (used * (2 * n)) before

  abbrev Row : List ℕ
  Row = take (2 * n) (drop (used * (2 * n)) table)

  swap_said : is_other r ≡ false → swap_lines n sizes used So (split 10 (drop at s)) ≡ after (step_got (4 + used) r Row s) (λ x. swap_lines n sizes (used + 1) (So ++ x.0) x.1)
  swap_said o =
      let b : begun_in 3 (drop at s) ≡ true = not_begun (begun_in 3 (drop at s)) (sym o ∙ rec.other) in
      swap_line_turn n sizes used So (split 10 (drop at s))
      (ap (λ (p : List ℕ). is_word 3 (word_of p)) (begins (drop at s)).field ∙ and_right (closed (drop at s)) _ b)
      (some_text s at h) (some_pieces (drop at s))
      ∙ ap (λ (g : Got (List ℕ × Pieces)). after g (λ x. swap_lines n sizes (used + 1) (So ++ x.0) x.1)) rec.is

  swap_room : (x : List ℕ × Pieces) → swap_line (4 + used) n sizes used (split 10 (drop at s)) ≡ fine x → used < 64
  swap_room x e = go (counts_line (4 + used) 3 (2 * n) used 64 (split 10 (drop at s))) refl e
    where
      go : (g : Got (List ℕ × Pieces)) → counts_line (4 + used) 3 (2 * n) used 64 (split 10 (drop at s)) ≡ g → after g (sides_of (4 + used) n sizes) ≡ fine x → used < 64
      go (fine y) f e = had_room (4 + used) 3 (2 * n) used 64 (split 10 (drop at s)) y f
      go (wrong reason line) f e = cc

  pub swap_on : (next : ℕ) → r ≡ Ok (Some next) → (used < 64) × (swap_lines n sizes (used + 1) (take ((used + 1) * (2 * n)) table) (split 10 (drop next s)) ≡ swap_lines n sizes used So (split 10 (drop at s)))
  swap_on next e = (
    swap_room _ (rec.is ∙ ap (λ (q : Step). step_got (4 + used) q Row s) e),
    ap (λ (c : List ℕ). swap_lines n sizes (used + 1) c (split 10 (drop next s))) (one_more used (2 * n) before table rec.kept)
        ∙ sym (swap_said (ap is_other e) ∙ ap (λ (q : Step). after (step_got (4 + used) q Row s) (λ x. swap_lines n sizes (used + 1) (So ++ x.0) x.1)) e),
  )

  pub swap_other : r ≡ Ok None → swap_lines n sizes used So (split 10 (drop at s)) ≡ loads_after n used (take (used * (2 * n)) table) (split 10 (drop at s))
  swap_other e =
      other_word n sizes used So (drop at s) (begun_not (begun_in 3 (drop at s)) (sym (ap is_other e) ∙ rec.other))
      ∙ ap (λ (c : List ℕ). loads_after n used c (split 10 (drop at s))) (sym rec.kept)
    where
      begun_not : (b : Bool) → true ≡ not b → b ≡ false
      begun_not true e = e
      begun_not false e = refl

  pub swap_refused : (refused : Refused) → r ≡ Err refused → swap_lines n sizes used So (split 10 (drop at s)) ≡ wrong refused.why refused.place
  swap_refused refused e = swap_said (ap is_other e) ∙ ap (λ (q : Step). after (step_got (4 + used) q Row s) (λ x. swap_lines n sizes (used + 1) (So ++ x.0) x.1)) e

-- the buffer of the loads has room for 1,024 of n counts
pub loads_room : (n len : ℕ) → n ≤ 12 → len ≡ 12288 → 1024 * n ≤ len
loads_room n len h e = omega arith
