use Rattle.pesp_problem.specs.Arcs.{Net}
use Rattle.pesp_bound.proofs.Gathering.{demands_more}
use Rattle.pesp_bound.proofs.differences.edges_along.Goals as goal

pub loop-k-preserved : goal.loop-k-preserved
loop-k-preserved c =
    let n : Net = record { period = c.args.period; arcs = c.args.arcs.now } in
    rw c.in_ok-push.ensures.items (demands_more n c.args.slacks.now c.args.shifts.now c.args.rows.now c.loop-k.k
    c.loop-k.edges.items c.edge_along.result c.edge_along.ensures c.loop-k.invariant)
