use Rattle.std.proofs.Common.{arith, ap}
use Rattle.std.specs.Prelude.{unsigned_abs}
use Rattle.pesp_problem.proofs.Counts.{net_count_small}
use Rattle.pesp_judges.proofs.walks.judge_cycle.Goals as goal

pub take_nets-requires-clause-small : goal.take_nets-requires-clause-small
take_nets-requires-clause-small g c i l =
    let are = c.in_ok-way_of.ensures.counts c.in-Closed.is in
    omega (arith, ap unsigned_abs (are i l), net_count_small (g.R.Elements.elements c.args.rows) i 10000000 c.requires.short)
