use Rattle.std.proofs.Common.{ℕ, subst}
use Rattle.pesp_network.specs.Networks.{arcs_of_network}
use Rattle.pesp_network.specs.Rooted.{AreReaches}
use Rattle.pesp_network.proofs.Holding.{own_forest}
use Rattle.pesp_network.proofs.network.find.Goals as goal

pub forest_rows-requires : goal.forest_rows-requires
forest_rows-requires c = (arcs_of_network c.args.rows.now, c.requires)

pub reach-requires : goal.reach-requires
reach-requires c = own_forest c.args.events (arcs_of_network c.args.rows.now) c.args.forest.now c.requires

pub returns-clause-reaches : goal.returns-clause-reaches
returns-clause-reaches c =
    let r = c.in_ok-reaches.reaches in
    subst (λ (k : ℕ). AreReaches k (arcs_of_network c.args.rows.now) c.args.forest.now r.low.items r.high.items)
    c.requires.events c.in_ok-reaches.ensures.reaches
