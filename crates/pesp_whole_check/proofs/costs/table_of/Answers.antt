use Rattle.std.proofs.Common.{arith}
use Rattle.pesp_whole_check.proofs.costs.table_of.Goals as goal

pub returns-clause-few : goal.returns-clause-few
returns-clause-few c =
    let nets = (rw (c.in-Ok.is, c.cycles.ensures.value) at c.in_ok-table.ensures.verdict).1 in
    omega (arith, nets.long, c.cycles.ensures.limits.cycles)
