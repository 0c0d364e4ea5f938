use Rattle.std.proofs.Common.{vec_len}
use Rattle.pesp_network.specs.Networks.{arcs_of_network}
use Rattle.pesp_network.specs.Growing.{at}
use Rattle.pesp_network.proofs.Stepping.{DescendsOn}
use Rattle.pesp_network.proofs.walks.descend.Given as goal

abbrev pub invariant-descent : goal.invariant-descent
invariant-descent l = DescendsOn (vec_len l.forest.up) (arcs_of_network l.rows) l.forest l.from l.to l.way.items l.lower

abbrev pub decreases-descent : goal.decreases-descent
decreases-descent l = at l.forest.place.items l.lower
