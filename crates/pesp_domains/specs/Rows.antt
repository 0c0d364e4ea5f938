-- The rows of a network, made ready for propagation.
use Rattle.std.specs.Prelude.{ℕ, List}
use Rattle.pesp_problem.specs.declared.arc.Arc.{Arc}
use Rattle.pesp_network.specs.Networks.{NetworkValue, arcs_of_network}

-- a period, a number of events, and the arcs between them
pub record RowsValue : Type 0 where
  pub period : ℕ
  pub events : ℕ
  pub arcs : List Arc

-- those of a network: its rows without their origins
abbrev pub network_rows : NetworkValue → RowsValue
network_rows n = record { period = n.period; events = n.events; arcs = arcs_of_network n.rows }
