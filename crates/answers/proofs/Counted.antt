-- What is known of a sheet that was read: n is from 1 to 12, and there are at most 64 swaps and 1,024 loads. Assumes nothing.
use Prim.Native.Nat.{ℕ, ◌+◌, ◌*◌, ◌<◌, ◌≤◌}
use mathlib.Core.Path.{◌≡◌, refl, sym, ap, subst, ◌∙◌}
use mathlib.Core.Bool.{Bool, true, false, cond, ◌&&◌}
use mathlib.Core.Logic.{◌⊎◌, inl, inr, ⊎_elim}
use mathlib.Core.List.{List, [], ◌∷◌, ◌++◌}
use native.Mathlib.Omega.{arith}
use lib.Dec.{leb, ltb}
use lib.IntN.{ℤ}
use lib.ListN.{get_or}
use borrow.Author.Tests.{leb-true, ltb-true}
use Rattle.terms.specs.declared.Kit.{Kit}
use Rattle.terms.specs.declared.Refusal.{Refusal}
use Rattle.terms.specs.declared.Refusal.TheVariants.{Kinds, Bound, Length, BadLine, BigCount}
use Rattle.terms.specs.Limits.{KindsFine, most_kinds, most_bound, most_count, most_swaps, most_loads}
use Rattle.texts.specs.Number.{number_of}
use Rattle.lines.specs.Fields.{word_of}
use Rattle.shapes.specs.Split.{Got, fine, wrong, shaped, read_line, split, first, is_word}
use Rattle.shapes.specs.Rows.{is_empty}
use Rattle.laws.specs.Outcome.{Never, passed, taken}
use Rattle.sheet.specs.declared.Counts.{Counts}
use Rattle.std.specs.Prelude.{Ok, Err}
use Rattle.terms.specs.declared.Refused.{Refused}
use Rattle.records.specs.Lines.{Pieces, after, ask, within, all, kit_line, kit_of, size_line, cost_line, counts_line, swap_line, sides_of}
use Rattle.sheet.specs.Sheet.{Records, load_lines, loads_after, swap_lines, Sheet, sheet_of, Result, result_of, tests, Reads}

never : {A : Type 0} {why : Refusal} {at : ℕ} {a : A} → wrong why at ≡ fine a → ⊥
never e = let z : ◌≡◌ {A = ℕ} 0 1 = cc in omega arith

same_fine : {A : Type 0} {a b : A} → fine a ≡ fine b → a ≡ b
same_fine e = cc

-- what went on was read, and a test that did not refuse held
got : {A B : Type 0} (g : Got A) (f : A → Got B) {b : B} → after g f ≡ fine b → (a : A) × (g ≡ fine a) × (f a ≡ fine b)
got (fine a) f e = (a, refl, e)
got (wrong why at) f e = absurd (never e)

held : {A : Type 0} (t : Bool) (why : Refusal) (at : ℕ) (g : Got A) {a : A} → ask t why at g ≡ fine a → (t ≡ true) × (g ≡ fine a)
held true why at g e = (refl, e)
held false why at g e = absurd (never e)

both : (a b : Bool) → (a && b) ≡ true → (a ≡ true) × (b ≡ true)
both true b e = (refl, e)
both false b e = absurd (let z : ◌≡◌ {A = ℕ} 0 1 = cc in omega arith)

which : {A : Type 0} (t : Bool) (g h : Got A) {a : A} → cond t g h ≡ fine a → (g ≡ fine a) ⊎ (h ≡ fine a)
which true g h e = inl e
which false g h e = inr e

kit_fine : (ps : Pieces) (k : Kit × Pieces) → kit_line ps ≡ fine k → KindsFine k.0.kinds
kit_fine ps k e =
    let g = got (read_line 1 (shaped 0 number_of 2) ps) (λ (r : List ℕ × Pieces). kit_of (get_or r.0 0 0) (get_or r.0 1 0) r.1) e in
    let n = get_or g.0.0 0 0 in
    let b = get_or g.0.0 1 0 in
    let kit : Kit × Pieces = (record { kinds = n; bound = b }, g.0.1) in
    let h = held (within 1 most_kinds n) Kinds 1 (ask (within 1 most_bound b) Bound 1 (fine kit)) g.2 in
    let same : kit ≡ k = same_fine (held (within 1 most_bound b) Bound 1 (fine kit) h.1).1 in
    let t = both (leb 1 n) (leb n most_kinds) h.0 in
    subst (λ (q : Kit × Pieces). KindsFine q.0.kinds) same (leb-true 1 n t.0, leb-true n most_kinds t.1)

-- a line of counts that was read had room
had_room : (at w width used room : ℕ) (ps : Pieces) (r : List ℕ × Pieces) → counts_line at w width used room ps ≡ fine r → used < room
had_room at w width used room ps r e =
    let rest : List ℕ × Pieces → Got (List ℕ × Pieces) = λ q. ask (all (within 0 most_count) q.0) BigCount at (fine q) in
    let g = got (read_line at (shaped w number_of width) ps) (λ (q : List ℕ × Pieces). ask (ltb used room) Length at (rest q)) e in
    ltb-true used room (held (ltb used room) Length at (rest g.0) g.2).0

loads_most : (n from used : ℕ) (so : List ℕ) (ps : Pieces) (r : Records) → load_lines n from used so ps ≡ fine r → used ≤ most_loads → r.number ≤ most_loads
unfolding load_lines
loads_most n from used so [] r e h = absurd (never e)
loads_most n from used so (p ∷ []) r e h =
    let same = same_fine (held (is_empty p) BadLine (from + used) (fine (record { number = used; counts = so })) e).1 in
    subst (λ (q : Records). q.number ≤ most_loads) same h
loads_most n from used so (l ∷ (m ∷ ls)) r e h =
    let g = got (counts_line (from + used) 4 n used most_loads (l ∷ (m ∷ ls))) (λ (q : List ℕ × Pieces). load_lines n from (used + 1) (so ++ q.0) (m ∷ ls)) e in
    loads_most n from (used + 1) (so ++ g.0.0) (m ∷ ls) r g.2 (omega (arith, had_room (from + used) 4 n used most_loads (l ∷ (m ∷ ls)) g.0 g.1))

abbrev Most : Records × Records → Type 0
Most r = (r.0.number ≤ most_swaps) × (r.1.number ≤ most_loads)

after_most : (n used : ℕ) (so : List ℕ) (ps : Pieces) (r : Records × Records) → loads_after n used so ps ≡ fine r → used ≤ most_swaps → Most r
after_most n used so ps r e h =
    let swaps : Records = record { number = used; counts = so } in
    let g = got (load_lines n (4 + used) 0 [] ps) (λ (l : Records). fine (swaps, l)) e in
    subst Most (same_fine g.2) (h, loads_most n (4 + used) 0 [] ps g.0 g.1 (omega arith))

swaps_most : (n : ℕ) (sizes : List ℕ) (used : ℕ) (so : List ℕ) (ps : Pieces) (r : Records × Records) → swap_lines n sizes used so ps ≡ fine r → used ≤ most_swaps → Most r
unfolding swap_lines
swaps_most n sizes used so [] r e h = after_most n used so [] r e h
swaps_most n sizes used so (p ∷ []) r e h = after_most n used so (p ∷ []) r e h
swaps_most n sizes used so (l ∷ (m ∷ ls)) r e h =
    let ps : Pieces = l ∷ (m ∷ ls) in
    let more : List ℕ × Pieces → Got (Records × Records) = λ q. swap_lines n sizes (used + 1) (so ++ q.0) (m ∷ ls) in
    ⊎_elim
    (λ (d : after (swap_line (4 + used) n sizes used ps) more ≡ fine r).
    let g = got (swap_line (4 + used) n sizes used ps) more d in
    let c = got (counts_line (4 + used) 3 (2 * n) used most_swaps ps) (sides_of (4 + used) n sizes) g.1 in
    swaps_most n sizes (used + 1) (so ++ g.0.0) (m ∷ ls) r g.2 (omega (arith, had_room (4 + used) 3 (2 * n) used most_swaps ps c.0 c.1)))
    (λ (d : loads_after n used so ps ≡ fine r). after_most n used so ps r d h)
    (which (is_word 3 (word_of (first (split 9 l)))) (after (swap_line (4 + used) n sizes used ps) more) (loads_after n used so ps) e)

-- the sheet that a text is
record Counted (s : Sheet) : Type 0 where
  kinds : KindsFine s.kit.kinds
  swaps : s.swaps.number ≤ most_swaps
  loads : s.loads.number ≤ most_loads

sheet_counted : (text : List ℕ) (s : Sheet) → sheet_of text ≡ fine s → Counted s
sheet_counted text s e =
    let last : (k : Kit × Pieces) (w : List ℕ × Pieces) (c : List ℤ × Pieces) → Records × Records → Got Sheet =
    λ k w c r. fine (record { kit = k.0; sizes = w.0; costs = c.0; swaps = r.0; loads = r.1 }) in
    let costs : (k : Kit × Pieces) (w : List ℕ × Pieces) → List ℤ × Pieces → Got Sheet =
    λ k w c. after (swap_lines k.0.kinds w.0 0 [] c.1) (last k w c) in
    let sizes : (k : Kit × Pieces) → List ℕ × Pieces → Got Sheet = λ k w. after (cost_line k.0.kinds w.1) (costs k w) in
    let kits : Kit × Pieces → Got Sheet = λ k. after (size_line k.0.kinds k.1) (sizes k) in
    let k = got (kit_line (split 10 text)) kits e in
    let w = got (size_line k.0.0.kinds k.0.1) (sizes k.0) k.2 in
    let c = got (cost_line k.0.0.kinds w.0.1) (costs k.0 w.0) w.2 in
    let r = got (swap_lines k.0.0.kinds w.0.0 0 [] c.0.1) (last k.0 w.0 c.0) c.2 in
    let most = swaps_most k.0.0.kinds w.0.0 0 [] c.0.1 r.0 r.1 (omega arith) in
    subst Counted (same_fine r.2) (record { kinds = kit_fine (split 10 text) k.0 k.1; swaps = most.0; loads = most.1 })

refused_not : {r : Refused} {c : Counts} (o p : Result) → o.answer ≡ Ok c → p.answer ≡ Err r → o ≡ p → ⊥
refused_not o p e f d = let g : o.answer ≡ p.answer = ap (λ (q : Result). q.answer) d in let z : ◌≡◌ {A = ℕ} 0 1 = cc in omega arith

counted_by : (text : List ℕ) (c : Counts) (g : Got Sheet) → sheet_of text ≡ g → (result_of g).answer ≡ Ok c → KindsFine c.kinds × (c.swaps ≤ most_swaps) × (c.loads ≤ most_loads)
counted_by text c (wrong why line) f e = absurd (let z : ◌≡◌ {A = ℕ} 0 1 = cc in omega arith)
counted_by text c (fine s) f e =
    let has = sheet_counted text s f in
    let same : record { kinds = s.kit.kinds; bound = s.kit.bound; swaps = s.swaps.number; loads = s.loads.number } ≡ c = cc in
    subst (λ (d : Counts). KindsFine d.kinds × (d.swaps ≤ most_swaps) × (d.loads ≤ most_loads)) same (has.kinds, has.swaps, has.loads)

-- the counts of an accepted answer
pub reads_counted : (text sizes : List ℕ) (costs : List ℤ) (swaps loads : List ℕ) (o : Result) (c : Counts) → Reads text sizes costs swaps loads o → o.answer ≡ Ok c → KindsFine c.kinds × (c.swaps ≤ most_swaps) × (c.loads ≤ most_loads)
reads_counted text sizes costs swaps loads o c r e =
    let all = tests text sizes costs swaps loads in
    let never-refused : Never o all =
    (refused_not o _ e refl, (refused_not o _ e refl, (refused_not o _ e refl, (refused_not o _ e refl, (refused_not o _ e refl, tt))))) in
    let accepted : Result → Type 0 = λ q. q ≡ result_of (sheet_of text) in
    let d : o ≡ result_of (sheet_of text) = taken accepted all o (passed accepted all o never-refused r) r in
    counted_by text c (sheet_of text) refl (ap (λ (q : Result). q.answer) (sym d) ∙ e)
