use Rattle.pesp_network.proofs.Holding.{ends_kept}
use Rattle.pesp_network.proofs.network.Network.make.Goals as goal

pub forest_of-requires-clause-ends : goal.forest_of-requires-clause-ends
forest_of-requires-clause-ends c = ends_kept c.args.period c.args.events c.args.rows.items c.as_slice.result.now
    c.as_slice.ensures.value c.requires.each
