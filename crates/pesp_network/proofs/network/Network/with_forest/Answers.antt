use Rattle.std.proofs.Common.{rules}
use Rattle.pesp_network.proofs.network.Network.with_forest.Goals as goal

pub with-requires-clause-each : goal.with-requires-clause-each
with-requires-clause-each c = search rules

pub with-requires-clause-forest : goal.with-requires-clause-forest
with-requires-clause-forest c = search rules

pub returns-clause-rows : goal.returns-clause-rows
returns-clause-rows c = search rules

pub returns-clause-events : goal.returns-clause-events
returns-clause-events c = search rules
