use Rattle.std.proofs.Common.{rules}
use Rattle.pesp_network.specs.Networks.{arcs_of_network}
use Rattle.pesp_network.proofs.Holding.{own_forest, own_reaches}
use Rattle.pesp_network.proofs.network.Network.is_bridge.Goals as goal

pub is_bridge-requires-clause-forest : goal.is_bridge-requires-clause-forest
is_bridge-requires-clause-forest c =
    let n = c.self.inside in
    rw c.as_slice.ensures.value
    (own_forest n.events (arcs_of_network n.rows.items) n.forest c.self.invariant.forest)

pub is_bridge-requires-clause-reaches : goal.is_bridge-requires-clause-reaches
is_bridge-requires-clause-reaches c =
    let n = c.self.inside in
    rw c.as_slice.ensures.value
    (own_reaches n.events (arcs_of_network n.rows.items) n.forest n.reaches.low.items n.reaches.high.items
    c.self.invariant.forest c.self.invariant.reaches)

pub returns : goal.returns
returns c = search rules
