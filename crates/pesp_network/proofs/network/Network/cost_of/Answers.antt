use Rattle.pesp_network.proofs.network.Network.cost_of.Goals as goal

pub cost_of-requires-clause-limits : goal.cost_of-requires-clause-limits
cost_of-requires-clause-limits c = rw (c.period.ensures.period, c.events.ensures.events) c.arcs.ensures.each

pub returns : goal.returns
returns c = rw (← c.period.ensures.period, ← c.arcs.ensures.arcs) c.cost_of.ensures
