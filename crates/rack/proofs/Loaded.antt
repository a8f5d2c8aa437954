-- Loads within the bound of a sound table: they stay so under its rows, and their rank falls.
-- Assumes nothing.
use Rattle.std.specs.Prelude.{ℕ, ◌*◌, ◌≤◌, ◌<◌, ◌≡◌, refl, List, length}
use Rattle.std.proofs.Common.{sym, subst, ◌∙◌, inl, inr, arith}
use Rattle.terms.specs.Load.{grade, Fits}
use Rattle.terms.specs.Swaps.{◌∈◌, exchange}
use Rattle.terms.specs.Table.{Row}
use Rattle.terms.specs.Flat.{row_at}
use Rattle.terms.specs.Settling.{Proper, FirstFit, Settles}
use Rattle.laws.specs.Load.{From, UpTo, counts_up_to, up_to_more}
use Rattle.laws.specs.Flat.{table_sided}
use Rattle.laws.specs.Numbered.{in_numbered}
use Rattle.laws.specs.Order.{before_laws}
use Rattle.laws.specs.Strides.{Walks.stop, Strides}
use Rattle.laws.specs.Falls.{first_fit_in, Falls, Within, step_falls, stride_falls, settles_within}
use Rattle.rack.specs.Racked.{costs_of, Sound, Loaded, FlatSound, FlatLoaded}

-- the rank of a load in the cost order, with counts up to 1,000
abbrev pub rank : List ℕ → List ℕ → ℕ
rank weights x = (before_laws (costs_of weights) 12).rank 1000 x

module _ {weights : List ℕ} {T : List Row} {x : List ℕ} (l : Loaded weights T x) where
  pub loaded_counts : UpTo 1000 x
  loaded_counts =
      let s = l.sound in
      up_to_more s.bound 1000 x s.small (counts_up_to s.sizes x s.bound (l.long ∙ sym s.racked.sizes_long) s.racked.positive l.within)

  pub loaded_falls : {y : List ℕ} → Falls 12 l.sound.sizes (costs_of weights) x y → Loaded weights T y
  loaded_falls f = record { sound = l.sound; long = f.long; within = omega (arith, f.graded, l.within) }

  pub loaded_settles : {y : List ℕ} → Settles T x y → Loaded weights T y
  loaded_settles {y} w = go (settles_within 12 l.sound.bound l.sound.sizes (costs_of weights) l.sound.racked.sided l.sound.racked.proper w)
    where
      go : Within 12 l.sound.sizes (costs_of weights) x y → Loaded weights T y
      go (inl e) = subst (Loaded weights T) e l
      go (inr f) = loaded_falls f

  stride_down : {y : List ℕ} → Strides T x y → Falls 12 l.sound.sizes (costs_of weights) x y
  stride_down w = stride_falls 12 l.sound.bound l.sound.sizes (costs_of weights) l.sound.racked.sided l.sound.racked.proper w

  pub loaded_stride : {y : List ℕ} → Strides T x y → Loaded weights T y
  loaded_stride w = loaded_falls (stride_down w)

  -- the first row that fits
  module _ {a : Row} (f : FirstFit x a T) (fits : Fits a.head x) where
    -- one step by it is one that `exchange_in` makes, within the counts
    pub row_step : Fits a.head x × (length a.tail ≡ length x) × UpTo 65535 (exchange a.head a.tail x)
    row_step =
        let within = first_fit_in f in
        let side = l.sound.racked.sided a within in
        let next = loaded_falls (step_falls 12 l.sound.bound l.sound.sizes (costs_of weights) a side (l.sound.racked.proper a within) record { fits = fits; gives = refl }) in
        (fits, side.of_tail ∙ sym l.long, up_to_more 1000 65535 (exchange a.head a.tail x) (omega arith) (counts_of next))
      where
        counts_of : {y : List ℕ} → Loaded weights T y → UpTo 1000 y
        counts_of {y} k =
            let s = k.sound in
            up_to_more s.bound 1000 y s.small (counts_up_to s.sizes y s.bound (k.long ∙ sym s.racked.sizes_long) s.racked.positive k.within)

    pub row_stride : Strides T x (exchange a.head a.tail x)
    row_stride = record { by = a; to = exchange a.head a.tail x; fits = f; step = record { fits = fits; gives = refl }; on = stop refl }

pub loaded_rank : {weights : List ℕ} {T : List Row} {x y : List ℕ} → Loaded weights T x → Strides T x y → rank weights y < rank weights x
loaded_rank {weights} {T} {x} {y} l w =
    let f = stride_down l w in
    (before_laws (costs_of weights) 12).rank_less 1000 y x f.long l.long (loaded_counts (loaded_falls l f)) (loaded_counts l) f.before

-- a load that stands as a tail
pub tail_loaded : {weights : List ℕ} {T : List Row} → Sound weights T → (a : Row) → a ∈ T → Loaded weights T a.tail
tail_loaded s a m =
    let p = s.racked.proper a m in
    record { sound = s; long = (s.racked.sided a m).of_tail; within = omega (arith, p.even, p.bounded) }

-- a flat table is sound where each of its rows, by number, is proper
abbrev pub flat_sound : (weights table : List ℕ) (rows : ℕ) {bound : ℕ} {sizes : List ℕ} → bound ≤ 1000 → length sizes ≡ 12 → From 1 sizes → length weights ≡ 12 → rows * 24 ≤ length table → ((r : ℕ) → r < rows → Proper bound sizes (costs_of weights) (row_at 12 table r)) → FlatSound weights table rows
flat_sound weights table rows {bound} {sizes} small sized positive weighed lies proper = (
  lies,
  record {
    bound = bound;
    small = small;
    sizes = sizes;
    racked = record {
      sizes_long = sized;
      positive = positive;
      weights_long = weighed;
      sided = table_sided 12 rows table lies;
      proper = λ a m. let t = in_numbered (row_at 12 table) rows m in subst (Proper bound sizes (costs_of weights)) (sym t.2) (proper t.0 t.1);
    };
  },
)

-- and a load within its bound is loaded on it
pub flat_loaded : (weights table : List ℕ) (rows : ℕ) {bound : ℕ} {sizes x : List ℕ} → bound ≤ 1000 → length sizes ≡ 12 → From 1 sizes → length weights ≡ 12 → rows * 24 ≤ length table → ((r : ℕ) → r < rows → Proper bound sizes (costs_of weights) (row_at 12 table r)) → length x ≡ 12 → grade sizes x ≤ bound → FlatLoaded weights table rows x
flat_loaded weights table rows small sized positive weighed lies proper long within =
    (lies, record { sound = (flat_sound weights table rows small sized positive weighed lies proper).1; long = long; within = within })
