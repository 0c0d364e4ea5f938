use Rattle.pesp_network.proofs.Holding.{ends_kept}
use Rattle.pesp_network.proofs.network.Network.chains.Goals as goal

pub chain_rows-requires-clause-ends : goal.chain_rows-requires-clause-ends
chain_rows-requires-clause-ends c =
    let n = c.self.inside in ends_kept n.period n.events n.rows.items c.as_slice.result.now
    c.as_slice.ensures.value c.self.invariant.limits.each
