-- A run of settling: x is what the load x₀ has become, and r the row to apply next.
-- Assumes nothing.
use Rattle.std.specs.Prelude.{ℕ, zero, suc, ◌+◌, ◌*◌, ◌≤◌, ◌<◌, ◌≡◌, refl, List, length, ℤ}
use Rattle.std.proofs.Common.{sym, ap, subst, subst₂, ◌∙◌, arith}
use Rattle.terms.specs.Load.{grade, Fits}
use Rattle.terms.specs.Swaps.{◌∈◌, Step}
use Rattle.terms.specs.Table.{Row}
use Rattle.terms.specs.Flat.{left_at, right_at, row_at, table_of}
use Rattle.terms.specs.Settling.{Proper, FirstFit, Settles, Settles.done}
use Rattle.laws.specs.Load.{UpTo, counts_up_to, all_map, up_to_more, fits_trans}
use Rattle.laws.specs.Order.{before_laws}
use Rattle.laws.specs.Numbered.{in_numbered}
use Rattle.laws.specs.Flat.{row_in, left_long, right_long, Sided, row_sides, table_sided}
use Rattle.laws.specs.Strides.{Walks, Walks.stop, Walks.more, Strides}
use Rattle.laws.specs.Falls.{stride_walks, walks_settles, Falls, step_falls, stride_falls}
use Rattle.bridge.specs.Regular.{IsKit}
use Rattle.loads.specs.FirstRow.{FirstRow, first_is, none_is}
use Rattle.leap.specs.Rounds.{wents, tops, Rounds, Calm}
use Rattle.leap.specs.Way.{wents_zero, tops_zero, wents_fit, wents_next, wents_within, tops_small}
use Rattle.settle.specs.Ready.{Ready}

-- x has n counts within the bound, and what it settles to is what x₀ settles to
pub record Run (n bound : ℕ) (sizes : List ℕ) (rules : List ℕ) (rows : ℕ) (x₀ x : List ℕ) : Type 0 where
  pub long : length x ≡ n
  pub small : grade sizes x ≤ bound
  pub leads : (y : List ℕ) → Settles (table_of n rules rows) x y → Settles (table_of n rules rows) x₀ y

-- and r is the first row that fits in x, or `rows`
pub record Going (n bound : ℕ) (sizes : List ℕ) (rules : List ℕ) (rows : ℕ) (x₀ x : List ℕ) (r : ℕ) : Type 0 where
  pub long : length x ≡ n
  pub small : grade sizes x ≤ bound
  pub at : FirstRow n rules rows x r
  pub leads : (y : List ℕ) → Settles (table_of n rules rows) x y → Settles (table_of n rules rows) x₀ y

pub going_of : {n bound : ℕ} {sizes rules : List ℕ} {rows : ℕ} {x₀ x : List ℕ} {r : ℕ} → Run n bound sizes rules rows x₀ x → FirstRow n rules rows x r → Going n bound sizes rules rows x₀ x r
going_of run first = record { long = run.long; small = run.small; at = first; leads = run.leads }

module _ (n bound : ℕ) (sizes : List ℕ) (costs : List ℤ) (rules : List ℕ) (rows : ℕ) (ready : Ready n bound sizes costs rules rows) where
  pub ready_kit : IsKit n sizes
  ready_kit = record { of_sizes = ready.sizes_long; from_one = all_map (λ s h. h.0) sizes ready.sizes_fine }

  pub lies : (i : ℕ) → i < rows → i * (2 * n) + 2 * n ≤ length rules
  lies i l = row_in n rows i (length rules) l ready.in_use

  pub ready_sided : Sided n (table_of n rules rows)
  ready_sided = table_sided n rows rules ready.in_use

  pub ready_proper : (a : Row) → a ∈ table_of n rules rows → Proper bound sizes costs a
  ready_proper a m =
      let t = in_numbered (row_at n rules) rows m in
      subst (Proper bound sizes costs) (sym t.2) (ready.proper t.0 t.1)

  -- counts are at most the grade
  counts_small : (x : List ℕ) → length x ≡ n → grade sizes x ≤ bound → UpTo bound x
  counts_small x l g = counts_up_to sizes x bound (l ∙ sym ready_kit.of_sizes) ready_kit.from_one g

  -- where the load is within the bound, its counts fit 16 bits
  pub counts16 : (x : List ℕ) → length x ≡ n → grade sizes x ≤ bound → UpTo 65535 x
  counts16 x l g =
      up_to_more bound 65535 x (omega (arith, ready.bounded.1)) (counts_small x l g)

  module _ (x₀ x : List ℕ) (r : ℕ) (going : Going n bound sizes rules rows x₀ x r) where
    pub run_ends : rows ≤ r → Settles (table_of n rules rows) x₀ x
    run_ends l = going.leads x (done (none_is n rules x rows r going.at l) refl)

    -- one stride or more, to y
    module _ (y : List ℕ) (strides : Strides (table_of n rules rows) x y) where
      run_fallen : Falls n sizes costs x y
      run_fallen = stride_falls n bound sizes costs ready_sided ready_proper strides

      pub run_long : length y ≡ n
      run_long = run_fallen.long

      run_small : grade sizes y ≤ bound
      run_small = omega (arith, run_fallen.graded, going.small)

      pub run_falls : (before_laws costs n).rank bound y < (before_laws costs n).rank bound x
      run_falls =
          (before_laws costs n).rank_less bound y x run_long going.long (counts_small y run_long run_small) (counts_small x going.long going.small) run_fallen.before

      pub run_on : Run n bound sizes rules rows x₀ y
      run_on = record { long = run_long; small = run_small; leads = λ z p. going.leads z (walks_settles (stride_walks strides) p) }

      pub run_goes : (s : ℕ) → FirstRow n rules rows y s → Going n bound sizes rules rows x₀ y s
      run_goes s f = going_of run_on f

    module _ (in_use : r < rows) where
      -- ---- the row applied many times, as h and t

      module _ (h t : List ℕ) (is-h : h ≡ left_at n rules r) (is-t : t ≡ right_at n rules r) where
        pub h_long : length h ≡ length x
        h_long = ap length is-h ∙ left_long n rules r (lies r in_use) ∙ sym going.long

        pub t_long : length t ≡ length x
        t_long = ap length is-t ∙ right_long n rules r (lies r in_use) ∙ sym going.long

        pub h_fits : Fits h x
        h_fits = subst (λ (k : List ℕ). Fits k x) (sym is-h) (going.at.fits_there in_use)

        -- no earlier row fits at the start
        pub calm_start : Calm n rules r h t x 0
        calm_start k l w =
            going.at.none_before k l (subst (λ (z : List ℕ). Fits (left_at n rules k) z) (tops_zero h t x h_long t_long) w)

        module _ (rest : ℕ) (enough : Rounds rest h t x) where
          round : (c : ℕ) → c ≤ rest → Step (left_at n rules r) (right_at n rules r) (wents c h t x) (wents (suc c) h t x)
          round c l =
              subst₂ (λ (k j : List ℕ). Step k j (wents c h t x) (wents (suc c) h t x)) is-h is-t
              (record { fits = wents_fit rest c l h t x h_long t_long enough; gives = wents_next rest c l h t x h_long t_long enough })

          -- every load on the way has n counts and the grade of x
          way : (c : ℕ) → c ≤ suc rest → (length (wents c h t x) ≡ n) × (grade sizes (wents c h t x) ≡ grade sizes x)
          way zero l =
              (ap length (wents_zero h t x h_long t_long) ∙ going.long, ap (grade sizes) (wents_zero h t x h_long t_long))
          way (suc c) l =
              let w = way c (omega arith) in
              let f = step_falls n bound sizes costs (row_at n rules r) (row_sides n rules r (lies r in_use)) (ready.proper r in_use) (round c (omega arith)) in
              (f.long, f.graded ∙ w.1)

          way_small : (c : ℕ) → c ≤ suc rest → UpTo 65535 (wents c h t x)
          way_small c l = let w = way c l in counts16 (wents c h t x) w.0 (omega (arith, w.1, going.small))

          pub tops_fit : (m : ℕ) → m ≤ rest → UpTo 65535 (tops m h t x)
          tops_fit m l =
              tops_small 65535 m h t x (counts16 x going.long going.small) (way_small m (omega arith))

          pub leap_fits : UpTo 65535 (wents (rest + 1) h t x)
          leap_fits = way_small (rest + 1) (omega arith)

          module _ (calm : Calm n rules r h t x rest) where
            first_there : (c : ℕ) → c ≤ rest → FirstFit (wents c h t x) (row_at n rules r) (table_of n rules rows)
            first_there c l =
                first_is n rules (wents c h t x) rows r
                (record {
                  within = going.at.within;
                  none_before = λ k m w. calm k m (fits_trans (left_at n rules k) (wents c h t x) (tops rest h t x) w (wents_within rest c l h t x));
                  fits_there = λ u. (round c l).fits;
                })
                in_use

            many : (k c : ℕ) → c + k ≤ suc rest → Walks (table_of n rules rows) (wents c h t x) (wents (c + k) h t x)
            many zero c l = let e : c ≡ c + 0 = omega arith in stop (ap (λ (j : ℕ). wents j h t x) e)
            many (suc k) c l =
                let e : suc c + k ≡ c + suc k = omega arith in
                more (row_at n rules r) (first_there c (omega arith)) (round c (omega arith)) (subst (λ (j : ℕ). Walks (table_of n rules rows) (wents (suc c) h t x) (wents j h t x)) e (many k (suc c) (omega arith)))

            -- the leap is that many strides
            pub leap_strides : Strides (table_of n rules rows) x (wents (rest + 1) h t x)
            leap_strides =
                let e : 1 + rest ≡ rest + 1 = omega arith in
                subst₂ (λ (y z : List ℕ). Strides (table_of n rules rows) y z) (wents_zero h t x h_long t_long) (ap (λ (j : ℕ). wents j h t x) e)
                (record { by = row_at n rules r; to = wents 1 h t x; fits = first_there 0 (omega arith); step = round 0 (omega arith); on = many rest 1 (omega arith) })
