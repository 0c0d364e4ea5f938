use Rattle.std.proofs.Common.{rules}
use Rattle.pesp_network.proofs.Holding.{each_good}
use Rattle.pesp_network.proofs.network.Network.new.Goals as goal

pub returns-in-Some-clause-refused : goal.returns-in-Some-clause-refused
returns-in-Some-clause-refused c = search rules

pub make-requires-clause-each : goal.make-requires-clause-each
make-requires-clause-each c = each_good c.args.period c.args.events c.args.rows.items c.as_slice.result.now
    c.as_slice.ensures.value (rw c.in_default.is at c.bad_row.ensures)
