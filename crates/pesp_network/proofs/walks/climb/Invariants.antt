use Rattle.std.proofs.Common.{vec_len}
use Rattle.pesp_network.specs.Networks.{arcs_of_network}
use Rattle.pesp_network.specs.Growing.{at}
use Rattle.pesp_network.proofs.Stepping.{ClimbsOn}
use Rattle.pesp_network.proofs.walks.climb.Given as goal

abbrev pub invariant-climb : goal.invariant-climb
invariant-climb l = ClimbsOn (vec_len l.forest.up) (arcs_of_network l.rows) l.forest l.to l.from l.initial.walk.items l.walk.items l.upper

abbrev pub decreases-climb : goal.decreases-climb
decreases-climb l = at l.forest.place.items l.upper
