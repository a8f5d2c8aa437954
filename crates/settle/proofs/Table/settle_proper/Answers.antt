use Rattle.std.proofs.Common.{ℕ, ℤ, List, ◌≡◌, ◌≤◌, ◌<◌, ◌+◌, length, sym, subst, arith}
use Rattle.terms.specs.Flat.{left_at, right_at, table_of}
use Rattle.laws.specs.Load.{UpTo}
use Rattle.laws.specs.Order.{before_laws}
use Rattle.laws.specs.Strides.{Strides}
use Rattle.loads.specs.FirstRow.{FirstRow}
use Rattle.leap.specs.Rounds.{wents, tops, Rounds, Calm}
use Rattle.leap.specs.Way.{rounds_fewer}
use Rattle.settle.specs.Ready.{Ready}
use Rattle.settle.specs.Going.{Run, Going, going_of, h_long, t_long, calm_start, tops_fit, leap_fits, leap_strides, run_ends, run_falls, run_on}
use Rattle.settle.proofs.Table.settle_proper.Goals as goal

-- row r is the first that fits in x: what is known where it is applied as h and t
module _
    {n bound : ℕ} {sizes : List ℕ} {costs : List ℤ} {table : List ℕ} {rows : ℕ} {x₀ x : List ℕ} {r : ℕ} {h t : List ℕ} (ready : Ready n bound sizes costs table rows) (run : Run n bound sizes table rows x₀ x) (first : FirstRow n table rows x r) (taken : r < rows)
    (is-h : h ≡ left_at n table r) (is-t : t ≡ right_at n table r) (most : ℕ) (rounds : Rounds most h t x)
  where
    going : Going n bound sizes table rows x₀ x r
    going = going_of run first

    calm_asks : ((m : ℕ) → m ≤ most → UpTo 65535 (tops m h t x)) × Calm n table r h t x 0
    calm_asks = (
      tops_fit n bound sizes costs table rows ready x₀ x r going taken h t is-h is-t most rounds,
      calm_start n bound sizes costs table rows ready x₀ x r going taken h t is-h is-t,
    )

    module _ (more : ℕ) (fewer : more ≤ most) where
      enough : Rounds more h t x
      enough = rounds_fewer most more h t x fewer rounds

      leap_asks : most ≤ 1000 → (length h ≡ length x) × (length t ≡ length x) × (more ≤ 1000) × Rounds more h t x × UpTo 65535 (wents (more + 1) h t x)
      leap_asks small = (
        h_long n bound sizes costs table rows ready x₀ x r going taken h t is-h is-t,
        t_long n bound sizes costs table rows ready x₀ x r going taken h t is-h is-t,
        omega arith,
        enough,
        leap_fits n bound sizes costs table rows ready x₀ x r going taken h t is-h is-t more enough,
      )

      module _ (calm : Calm n table r h t x more) (y : List ℕ) (is-y : y ≡ wents (more + 1) h t x) where
        -- what the leap left is so many strides from what the load was
        leapt : Strides (table_of n table rows) x y
        leapt =
            subst (λ (z : List ℕ). Strides (table_of n table rows) x z) (sym is-y) (leap_strides n bound sizes costs table rows ready x₀ x r going taken h t is-h is-t more enough calm)

        leap_falls : (before_laws costs n).rank bound y < (before_laws costs n).rank bound x
        leap_falls = run_falls n bound sizes costs table rows ready x₀ x r going y leapt

        leap_goes : Run n bound sizes table rows x₀ y
        leap_goes = run_on n bound sizes costs table rows ready x₀ x r going y leapt

pub calm-more-requires-clause-tops_fit : goal.calm-more-requires-clause-tops_fit
calm-more-requires-clause-tops_fit c = calm_asks c.requires.ready c.loop-r.invariant c.in-Some.ensures.first c.in-Some.ensures.in_table c.row_of-row.ensures.head.0 c.row_of-row.ensures.tail.0 c.rounds_of-most.result c.rounds_of-most.ensures.1

pub leap_in-requires : goal.leap_in-requires
leap_in-requires c = leap_asks c.requires.ready c.loop-r.invariant c.in-Some.ensures.first c.in-Some.ensures.in_table c.row_of-row.ensures.head.0 c.row_of-row.ensures.tail.0 c.rounds_of-most.result c.rounds_of-most.ensures.1 c.calm-more.result c.calm-more.ensures.0 c.rounds_of-most.ensures.0

pub loop-r-smaller : goal.loop-r-smaller
loop-r-smaller c = leap_falls c.requires.ready c.loop-r.invariant c.in-Some.ensures.first c.in-Some.ensures.in_table c.row_of-row.ensures.head.0 c.row_of-row.ensures.tail.0 c.rounds_of-most.result c.rounds_of-most.ensures.1 c.calm-more.result c.calm-more.ensures.0 c.calm-more.ensures.1 c.leap_in.new.x c.leap_in.ensures

pub loop-r-preserved : goal.loop-r-preserved
loop-r-preserved c = leap_goes c.requires.ready c.loop-r.invariant c.in-Some.ensures.first c.in-Some.ensures.in_table c.row_of-row.ensures.head.0 c.row_of-row.ensures.tail.0 c.rounds_of-most.result c.rounds_of-most.ensures.1 c.calm-more.result c.calm-more.ensures.0 c.calm-more.ensures.1 c.leap_in.new.x c.leap_in.ensures

pub returns : goal.returns
returns c =
    let t = c.args.self.now in
    run_ends t.kit.kinds t.kit.bound t.sizes.now t.costs.now t.rules.now t.rows c.requires.ready c.args.load.now c.loop-r.load t.rows (going_of c.loop-r.invariant c.in_default.ensures.first) (omega arith)
