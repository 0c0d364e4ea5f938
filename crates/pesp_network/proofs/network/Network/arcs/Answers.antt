use Rattle.std.proofs.Common.{subst}
use Rattle.pesp_problem.specs.ArcLimits.{KeepArcLimits}
use Rattle.pesp_network.specs.Networks.{NetworkValue}
use Rattle.pesp_network.proofs.Holding.{arcs_keep_limits}
use Rattle.pesp_network.proofs.network.Network.arcs.Goals as goal

pub returns-clause-each : goal.returns-clause-each
returns-clause-each c =
    let n = c.self.inside in
    let own : NetworkValue = record { period = n.period; events = n.events; rows = n.rows.items; forest = n.kept.items } in
    let P : NetworkValue → Type 0 = λ x. KeepArcLimits x.period x.events c.deref.result.now in
    subst P c.self.view_is (rw (c.deref.ensures.value, c.self.invariant.rows) (arcs_keep_limits own c.self.invariant.limits))
