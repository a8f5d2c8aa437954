-- The worked loads P1 to P12, in one table with one proof.
use Rattle.std.specs.Prelude.{refl}
use Rattle.std.proofs.Math.Decide.{ℕ_discrete, dec_le, dec_lt}
use Rattle.terms.specs.Limits.{All}
use Rattle.laws.specs.Load.{fits?}
use Rattle.laws.specs.Order.{before_laws, by_cost, by_rank, by_room, by_compare, compare_cost, compare_ℕ, lex_compare, lex_laws}
use Rattle.theory.specs.Kit.{eq?}
use Rattle.theory.specs.Rows.{first?, first_fits}
use Rattle.theory.specs.Settle.{nf, settle_by, onward}
use Rattle.theory.specs.Grow.{later_refl, later_trans}
use Rattle.theory.specs.Tails.{told}
use Rattle.theory.specs.Complete.{one_pair, each, pair_step, all_pairs, given_step, sheet_source}
use Rattle.theory.proofs.Complete.{next_grade, some_table, sheet_table}
use Rattle.theory.specs.Finished.{finished_sorted, in_order, place, above_total}
use Rattle.theory.proofs.Finished.{finished_some}
use Rattle.bridge.specs.Instance.{rest?, rest_of, three}
use Rattle.bridge.specs.Carry.{raised}
use Rattle.bridge.specs.Tables.{by_counts}
use Rattle.worked.specs.Examples.{Holds, examples}
use Rattle.worked.specs.Shown.{sure, with_it, both?, between?, each?, counts?, answer?, outcome?, apart?, there?, swap?, accepted?, tabled, completes?, settles?, says?, shown, all_pass, all_hold}

pub examples_hold : All Holds examples
unfolding sure with_it both? between? each? counts? answer? outcome? apart? there? swap? accepted? tabled completes? settles? says? shown all_pass ℕ_discrete dec_le dec_lt fits? before_laws by_cost by_rank by_room by_compare compare_cost compare_ℕ lex_compare lex_laws eq? first? first_fits nf settle_by onward later_refl later_trans told one_pair each pair_step all_pairs given_step next_grade some_table sheet_source sheet_table finished_some finished_sorted in_order place above_total rest? rest_of three raised by_counts
examples_hold = all_hold examples refl
