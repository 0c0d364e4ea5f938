use Rattle.std.proofs.Common.{subst}
use Rattle.pesp_problem.specs.Forests.{IsSpanningForest}
use Rattle.pesp_network.specs.Networks.{NetworkValue, arcs_of_network}
use Rattle.pesp_network.proofs.Tables.{spanning}
use Rattle.pesp_network.proofs.network.Network.forest.Goals as goal

pub returns-in_err-rows-clause-spans : goal.returns-in_err-rows-clause-spans
returns-in_err-rows-clause-spans c =
    let n = c.self.inside in let v = c.self.invariant in
    let P : NetworkValue → Type 0 = λ x. IsSpanningForest (arcs_of_network x.rows) x.forest in
    subst P c.self.view_is (spanning n.events (arcs_of_network n.rows.items) n.forest n.kept.items v.forest v.kept)

pub returns-clause-spans : goal.returns-clause-spans
returns-clause-spans c =
    let n = c.self.inside in let v = c.self.invariant in
    let P : NetworkValue → Type 0 = λ x. IsSpanningForest (arcs_of_network x.rows) x.forest in
    subst P c.self.view_is (spanning n.events (arcs_of_network n.rows.items) n.forest n.kept.items v.forest v.kept)
