-- What the loop that settles the new rows' tails keeps.
-- Assumes nothing.
use Rattle.std.specs.Prelude.{ℕ, suc, ◌+◌, ◌-◌, ◌≤◌, ◌<◌, ◌≡◌, refl, List, [], ◌∷◌, ◌++◌, length, get_or, set}
use Rattle.std.proofs.Common.{ap, ap₂, sym, subst, ◌∙◌, ⊎_elim, arith, length-append, length-set}
use Rattle.std.proofs.lemmas.List.{map-set}
use lib.Seq.{get_or-append-add}
use mathlib.Core.List.Memᴰ
use Rattle.terms.specs.Load.{grade}
use Rattle.terms.specs.Swaps.{◌∈◌, Swap}
use Rattle.terms.specs.Table.{Row}
use Rattle.terms.specs.Settling.{Settles}
use Rattle.laws.specs.Order.{before_laws}
use Rattle.theory.specs.Kit.{Kit}
use Rattle.theory.specs.Rows.{Row as RowOf, row, AllProper}
use Rattle.theory.specs.Settle.{nf}
use Rattle.theory.specs.Table.{Alike}
use Rattle.theory.specs.Tails.{Tails, tails_start, tails_next, retail_proper, retail_grade, retail_long}
use Rattle.rack.specs.Racked.{costs_of, Sound}
use Rattle.rack.specs.Rows.{blank, head_at, tail_at, TailSettled}
use Rattle.bridge.specs.Instance.{Load}
use Rattle.bridge.specs.Rows.{plain, plain_table}
use Rattle.bridge.specs.Settling.{settles_up}
use Rattle.growth.specs.Setting.{no_row, KitOf, RelOf, alike_of, table_long, row_is}
use Rattle.growth.specs.End.{racked_of}
use Rattle.growth.specs.State.{Within, TailsDone, TailsSettled}

set_over : {A : Type 0} (l k : List A) (i : ℕ) (v : A) → set (l ++ k) (length l + i) v ≡ l ++ set k i v
set_over [] k i v = ap (λ j. set k j v) (omega arith)
set_over (a ∷ l) k i v =
    let e : suc (length l) + i ≡ suc (length l + i) = omega arith in
    ap (λ j. set (a ∷ (l ++ k)) j v) e ∙ ap (λ z. a ∷ z) (set_over l k i v)

module _ {weights : List ℕ} {sheet : List Swap} {stamps : List ℕ} {g : ℕ} {T₀ : List Row} (w : Within weights sheet stamps g T₀) where
  abbrev K : Kit
  K = KitOf weights w.working.setting

  abbrev R : Load 12 → Load 12 → Type 0
  R = RelOf weights w.working.setting

  abbrev eqv : Alike K R
  eqv = alike_of weights w.working.setting

  -- the first i of the new rows have settled tails
  pub record SettledTo (i : ℕ) (T : List Row) : Type 0 where
    pub now_rows : List (RowOf (Load 12))
    pub is : plain_table (w.low ++ now_rows) ≡ T
    pub tails : Tails K R eqv g w.low w.fresh w.new no_row i now_rows

  pub settled_start : SettledTo 0 T₀
  settled_start = record { now_rows = w.fresh; is = w.is; tails = tails_start K R eqv g w.low w.fresh w.new no_row }

  module _ {i : ℕ} {T : List Row} (s : SettledTo i T) where
    abbrev all : List (RowOf (Load 12))
    all = w.low ++ s.now_rows

    ok : AllProper K all
    ok = retail_proper K R eqv g w.low w.fresh s.now_rows w.new s.tails.rows

    pub settled_sound : Sound weights T
    settled_sound = record {
      bound = w.bound;
      small = w.working.setting.small;
      sizes = w.sizes;
      racked = racked_of weights w.working.setting all T s.is w.working.weighed ok small;
    }
      where
        small : (a : RowOf (Load 12)) → a ∈ all → grade w.sizes a.head.0 ≤ w.bound
        small a m =
            ⊎_elim (λ (n : a ∈ w.low). omega (arith, (w.new.low.heads a n).under, w.bounded)) (λ (n : a ∈ s.now_rows). omega (arith, retail_grade K R eqv g w.low w.fresh s.now_rows w.new s.tails.rows a n, w.bounded)) (Memᴰ.append_cases w.low m)

    all_long : length all ≡ length T
    all_long = table_long all T s.is

    pub fresh_long : length s.now_rows ≡ length w.fresh
    fresh_long = retail_long K R eqv g w.low s.tails.rows

    module _ {after : List Row} (l : i < length s.now_rows) (t : TailSettled (length w.low + i) T after) where
      old_is : plain (get_or s.now_rows i no_row) ≡ get_or T (length w.low + i) blank
      old_is = ap plain (sym (get_or-append-add w.low s.now_rows i no_row)) ∙ row_is all T s.is (length w.low + i)

      new_tail : (nf K all (get_or s.now_rows i no_row).tail).0 ≡ t.end
      new_tail =
          settles_up 12 w.sizes w.working.setting.kit.of_sizes w.working.setting.kit.from_one (costs_of weights) (before_laws (costs_of weights) 12) all ok (get_or s.now_rows i no_row).tail
          (subst (λ (x : List ℕ). Settles (plain_table all) x t.end) (sym (ap (λ (a : Row). a.tail) old_is)) (subst (λ (U : List Row). Settles U (tail_at T (length w.low + i)) t.end) (sym s.is) t.settles))

      new_row : plain (row (get_or s.now_rows i no_row).head (nf K all (get_or s.now_rows i no_row).tail)) ≡ record { head = head_at T (length w.low + i); tail = t.end }
      new_row = λ z. record { head = ap (λ (a : Row). a.head) old_is z; tail = new_tail z }

      pub settled_next : SettledTo (suc i) after
      settled_next = record {
        now_rows = set s.now_rows i (row (get_or s.now_rows i no_row).head (nf K all (get_or s.now_rows i no_row).tail));
        is = ap plain_table (sym (set_over w.low s.now_rows i (row (get_or s.now_rows i no_row).head (nf K all (get_or s.now_rows i no_row).tail))))
            ∙ map-set plain all (length w.low + i) (row (get_or s.now_rows i no_row).head (nf K all (get_or s.now_rows i no_row).tail))
            ∙ ap₂ (λ (U : List Row) (a : Row). set U (length w.low + i) a) s.is new_row
            ∙ sym t.replaced;
        tails = tails_next K R eqv g w.low w.fresh w.new no_row i s.now_rows l s.tails;
      }

  pub settled_end : {i : ℕ} {T : List Row} (s : SettledTo i T) → i ≡ length s.now_rows → TailsDone w T
  settled_end s e = record { now_rows = s.now_rows; is = s.is; tails = subst (λ (k : ℕ). Tails K R eqv g w.low w.fresh w.new no_row k s.now_rows) e s.tails }

-- ---- the loop

pub record TailsGoing (weights : List ℕ) (T₀ : List Row) (base : ℕ) (T : List Row) (r : ℕ) : Type 0 where
  pub long : length T ≡ length T₀
  pub from : base ≤ r
  pub to : r ≤ length T₀
  pub going : {sheet : List Swap} {stamps : List ℕ} {g : ℕ} (w : Within weights sheet stamps g T₀) → length w.low ≡ base → SettledTo w (r - base) T

module _ {weights : List ℕ} {T₀ : List Row} {base : ℕ} where
  pub tails_none : base ≤ length T₀ → TailsGoing weights T₀ base T₀ base
  tails_none l = record { long = refl; from = omega arith; to = l; going = λ w e. subst (λ (k : ℕ). SettledTo w k T₀) (omega arith) (settled_start w) }

  module _ {T : List Row} {r : ℕ} (s : TailsGoing weights T₀ base T r) where
    pub tails_asked : {sheet : List Swap} {stamps : List ℕ} {g : ℕ} (w : Within weights sheet stamps g T₀) → length w.low ≡ base → Sound weights T
    tails_asked w e = settled_sound w (s.going w e)

    pub tails_turn : {after : List Row} → r < length T₀ → TailSettled r T after → TailsGoing weights T₀ base after (r + 1)
    tails_turn {after} l t = record {
      long = ap length t.replaced ∙ length-set T r _ ∙ s.long;
      from = omega (arith, s.from);
      to = omega arith;
      going = λ w e.
          let h = s.going w e in
          let k : length w.low + (r - base) ≡ r = omega (arith, s.from) in
          let few : r - base < length h.now_rows = omega (arith, s.from, s.long, all_long w h, length-append w.low h.now_rows) in
          subst (λ (i : ℕ). SettledTo w i after) (omega (arith, s.from)) (settled_next w h few (subst (λ (q : ℕ). TailSettled q T after) (sym k) t));
    }

    pub tails_end : length T₀ ≤ r → TailsSettled weights T₀ base T
    tails_end l = record {
      long = s.long;
      done = λ w e.
          let h = s.going w e in
          settled_end w h (omega (arith, s.from, s.to, s.long, all_long w h, length-append w.low h.now_rows));
    }
