use Rattle.std.proofs.Common.{◌/◌, length, arith}
use Rattle.answers.proofs.Writing.{shown_rows, shown_refused}
use Rattle.answers.proofs.Passed.{completing_ready}
use Rattle.answers.proofs.show.Goals as goal

pub rule_lines-requires : goal.rule_lines-requires
rule_lines-requires g c =
    let ready = completing_ready c.complete.ensures c.in-Ok.is in
    record {
      lengths = (ready.0.sizes_long, ready.0.kinds.1, ready.0.in_use);
      has_room = omega (arith, c.requires.2, ready.1);
    }

pub load_lines-requires : goal.load_lines-requires
load_lines-requires g c =
    let ready = completing_ready c.complete.ensures c.in-Ok.is in
    record {
      ready = (ready.0, omega (arith, c.requires.0, c.requires.1));
      has_room = omega (arith, c.requires.0, c.requires.2, ready.1, c.rule_lines.ensures.upper_bound, g.met.P.Paper.keeps_room _ _ _ c.rule_lines.ensures.stored);
    }

pub returns-in-Ok : goal.returns-in-Ok
returns-in-Ok g c =
    let a = c.args in
    let ready = completing_ready c.complete.ensures c.in-Ok.is in
    record {
      written = shown_rows _ g.P.Paper.stored a.kit.kinds a.kit.bound a.sizes.now a.costs.now a.swaps.now a.rules.now c.complete.new.rules a.loads.now (length a.loads.now / a.kit.kinds) a.first c.complete.ensures _ _ _ g.met.P.Paper.stores_both c.in-Ok.is c.rule_lines.ensures.stored c.load_lines.ensures.written;
      upper_bound = omega (arith, c.requires.0, ready.1, c.rule_lines.ensures.upper_bound, c.load_lines.ensures.upper_bound);
    }

pub returns-in-Err : goal.returns-in-Err
returns-in-Err g c =
    let a = c.args in
    record {
      written = shown_refused _ g.P.Paper.stored a.kit.kinds a.kit.bound a.sizes.now a.costs.now a.swaps.now a.rules.now c.complete.new.rules a.loads.now (length a.loads.now / a.kit.kinds) a.first c.complete.ensures c.number_of.result _ _ c.in-Err.is c.number_of.ensures c.refused_line.ensures.stored;
      upper_bound = omega (arith, c.refused_line.ensures.upper_bound);
    }
