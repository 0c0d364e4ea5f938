-- What a network holds beside its rows.
use Rattle.std.specs.Prelude.{◌≡◌, List, vec_len}
use Rattle.pesp_problem.specs.declared.arc.Arc.{Arc}
use Rattle.pesp_network.specs.declared.parts.Forest.{Forest}
use Rattle.pesp_network.specs.declared.parts.Reaches.{Reaches}
use Rattle.pesp_network.specs.Networks.{NetworkValue, KeepsNetLimits, arcs_of_network}
use Rattle.pesp_network.specs.Rooted.{IsForest, AreReaches, AreTreeRows}

-- the limits, the rows without their origins, a spanning forest of them, the places that are reached in it, and its rows
pub record NetworkIsHeld (n : NetworkValue) (arcs : List Arc) (f : Forest) (r : Reaches) : Type 0 where
  pub limits : KeepsNetLimits n
  pub rows : arcs ≡ arcs_of_network n.rows
  pub forest : IsForest n.events (arcs_of_network n.rows) f
  pub reaches : AreReaches n.events (arcs_of_network n.rows) f r.low.items r.high.items
  pub sized : vec_len r.low ≡ vec_len f.up
  pub kept : AreTreeRows n.events f n.forest
