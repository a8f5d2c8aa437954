use Rattle.std.proofs.Common.{ℕ, ◌*◌, ◌≤◌, length, arith, rules}
use Rattle.std.proofs.lemmas.List.{take-replicate}
use Rattle.answers.proofs.Lent.{lent_count, shown_lent}
use Rattle.answers.proofs.sheet_lines.Goals as goal

pub show-requires : goal.show-requires
show-requires g c =
    let a = c.args in
    let lies : a.counts.loads * a.counts.kinds ≤ length a.loads.now = search rules in
    let has = c.requires.0 in
    (rw (lent_count a.counts.kinds a.counts.loads a.loads.now lies has.kinds.0) has.loads, omega (arith, has.swaps), c.requires.1)

pub returns : goal.returns
returns g c =
    let a = c.args in
    let n = a.counts.kinds in
    let rows = 256 * (2 * n) in
    let lies : a.counts.loads * n ≤ length a.loads.now = search rules in
    let room = take-replicate {X = ℕ} rows 6144 0 (omega (arith, c.requires.0.kinds.1)) in
    record { written = shown_lent n a.counts.loads a.loads.now lies a.counts.bound _ _ _ g.P.Paper.stored _ _ c.requires.0.kinds.0 room c.show.ensures.written; upper_bound = c.show.ensures.upper_bound }
