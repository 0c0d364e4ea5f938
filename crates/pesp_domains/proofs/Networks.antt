-- The rows of a network lead between its events.
use Rattle.std.proofs.Common.{ℕ}
use Rattle.pesp_problem.specs.Arcs.{no_arc}
use Rattle.pesp_problem.specs.ArcLimits.{HaveEnds}
use Rattle.pesp_network.specs.Networks.{NetworkValue, arcs_of_network, KeepsNetLimits}
use Rattle.pesp_network.proofs.Holding.{arcs_keep_limits}

pub have_ends : (n : NetworkValue) → KeepsNetLimits n → HaveEnds n.events (arcs_of_network n.rows)
have_ends n h k l = let r = (arcs_keep_limits n h).each k no_arc l in (r.tail, r.head)
