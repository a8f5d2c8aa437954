use Rattle.std.proofs.Common.{ℕ, refl, ap, sym, subst, ◌∙◌}
use Rattle.std.proofs.lemmas.List.{length-map}
use Rattle.rack.specs.Rows.{as_row, as_rows, SortedFrom}
use Rattle.grades.proofs.Joins.{rows_in, rows_over}
use Rattle.grades.proofs.Graded.{opened, listing, tails_asked, below_now, sorted_all, enterable, list_still, full_by_swaps, full_by_pairs, grade_left, written, base_is}
use Rattle.grades.proofs.Work.one_grade.Goals as goal

pub join_swaps-requires : goal.join_swaps-requires
join_swaps-requires g c =
    let p = c.requires.1.1 in
    (opened p.0.0.0 p.0.0.1 p.1.0 p.1.1, p.1.2)

pub returns-in_err-join_swaps-clause-done : goal.returns-in_err-join_swaps-clause-done
returns-in_err-join_swaps-clause-done g c =
    let p = c.requires.1.1 in
    full_by_swaps p.0.0.0 p.0.0.1 p.1.0 p.1.1 c.join_swaps.ensures.done _ (rows_over c.join_swaps.new.table.items refl c.in_err-join_swaps.ensures.room)

pub join_pairs-requires-clause-listed : goal.join_pairs-requires-clause-listed
join_pairs-requires-clause-listed g c =
    let p = c.requires.1.1 in
    (g.S.StampedSheet.sheet c.args.self.now.swaps, g.S.StampedSheet.stamps c.args.self.now.swaps, rw c.deref.ensures.0 (listing p.0.0.0 p.0.0.1 p.1.0 p.1.1 c.join_swaps.ensures.done p.0.1))

pub returns-in_err-join_pairs-clause-done : goal.returns-in_err-join_pairs-clause-done
returns-in_err-join_pairs-clause-done g c =
    let p = c.requires.1.1 in
    let joined = rw c.deref.ensures.0 at c.join_pairs.ensures.done in
    full_by_pairs p.0.0.0 p.0.0.1 p.1.0 p.1.1 c.join_swaps.ensures.done p.0.1 joined (rows_over c.join_pairs.new.table.items refl c.in_err-join_pairs.ensures.room)

pub settle_tails-requires : goal.settle_tails-requires
settle_tails-requires g c =
    let p = c.requires.1.1 in
    let joined = rw c.deref.ensures.0 at c.join_pairs.ensures.done in
    let base = base_is c.args.table.now.items c.len-base.ensures.value in
    rw c.requires.1.0 (tails_asked p.0.0.0 p.0.0.1 p.1.0 p.1.1 c.join_swaps.ensures.done p.0.1 joined c.as_mut_slice-rows.result.now (ap as_rows c.as_mut_slice-rows.ensures.value) base)

pub enter_rows-requires : goal.enter_rows-requires
enter_rows-requires g c =
    let p = c.requires.1.1 in
    let w = p.0.0.0 in
    let at = p.0.0.1 in
    let some = p.1.0 in
    let bounded = p.1.1 in
    let base = base_is c.args.table.now.items c.len-base.ensures.value in
    let joined = rw c.deref.ensures.0 at c.join_pairs.ensures.done in
    let settled = rw (c.as_mut_slice-rows.ensures.value, base, c.requires.1.0) at c.settle_tails.ensures in
    let sorted = subst (λ (n : ℕ). SortedFrom n (as_rows c.settle_tails.new.table) (as_rows c.sort_rows.new.table)) base c.sort_rows.ensures in
    let now = length-map c.sort_rows.new.table as_row in
    let there = enterable w at some bounded c.join_swaps.ensures.done p.0.1 joined settled sorted (rows_in c.join_swaps.new.table.items refl c.in_ok-join_swaps.ensures.room) (rows_in c.join_pairs.new.table.items refl c.in_ok-join_pairs.ensures.room) c.args.self.now.few in
    let below = below_now w at some bounded c.join_swaps.ensures.done p.0.1 joined settled sorted in
    let still = list_still w at some bounded c.join_swaps.ensures.done p.0.1 joined settled sorted in
    (rw now at there, rw (base, ← now) below, rw base still)

pub returns-clause-done : goal.returns-clause-done
returns-clause-done g c =
    let p = c.requires.1.1 in
    let w = p.0.0.0 in
    let at = p.0.0.1 in
    let some = p.1.0 in
    let bounded = p.1.1 in
    let base = base_is c.args.table.now.items c.len-base.ensures.value in
    let joined = rw c.deref.ensures.0 at c.join_pairs.ensures.done in
    let settled = rw (c.as_mut_slice-rows.ensures.value, base, c.requires.1.0) at c.settle_tails.ensures in
    let sorted = subst (λ (n : ℕ). SortedFrom n (as_rows c.settle_tails.new.table) (as_rows c.sort_rows.new.table)) base c.sort_rows.ensures in
    let now = length-map c.sort_rows.new.table as_row in
    let back = written c.join_pairs.new.table.items c.sort_rows.new.table (sym now ∙ sorted_all w at some bounded c.join_swaps.ensures.done p.0.1 joined settled sorted ∙ length-map c.join_pairs.new.table.items as_row) in
    rw back (grade_left w at some bounded c.join_swaps.ensures.done p.0.1 joined settled sorted (rows_in c.join_swaps.new.table.items refl c.in_ok-join_swaps.ensures.room) (rows_in c.join_pairs.new.table.items refl c.in_ok-join_pairs.ensures.room) (rw (← now) at c.enter_rows.ensures))
