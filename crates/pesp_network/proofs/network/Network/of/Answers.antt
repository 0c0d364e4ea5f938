use Rattle.std.proofs.Common.{rules, length}
use Rattle.pesp_network.proofs.network.Network.of.Goals as goal

pub returns-clause-events : goal.returns-clause-events
returns-clause-events c = search rules

pub rows_of-requires-clause-each : goal.rows_of-requires-clause-each
rows_of-requires-clause-each c = (length c.args.instance.now.events, rw c.rows.ensures.rows c.rows.ensures.limits.each)

pub make-requires-clause-each : goal.make-requires-clause-each
make-requires-clause-each c = c.in_ok-rows.ensures.each (length c.events.result.now)
    (rw (c.rows.ensures.rows, c.events.ensures.events) c.rows.ensures.limits.each)
