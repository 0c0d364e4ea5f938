-- What a problem keeps beside its network and its table.
use Rattle.std.specs.Prelude.{◌≡◌, List, length, map, ℤ, All}
use Rattle.pesp_problem.specs.Walks.{IsWalk}
use Rattle.pesp_problem.specs.Nodes.{odijk_range, root_slacks}
use Rattle.pesp_network.specs.Networks.{KeepsNetLimits}
use Rattle.pesp_problem.specs.declared.nets.NetCount.{NetCount}
use Rattle.pesp_nodes.specs.declared.passages.Passage.{Passage}
use Rattle.pesp_problem.specs.Nets.{AreNets}
use Rattle.pesp_nodes.specs.Offsets.{AreOffsetEnds, IsSmallRange}
use Rattle.pesp_nodes.specs.Passages.{ArePassages}
use Rattle.pesp_nodes.specs.Problems.{ProblemValue, problem_net, IsSmallTable}

-- the limits of the network, walks that close, the net counts of the cycles, the passages of the rows, and the offset ranges of the root
pub record IsPrepared (p : ProblemValue) (nets : List (List NetCount)) (by_row : List (List Passage)) (bounds : List (ℤ × ℤ)) : Type 0 where
  pub limits : KeepsNetLimits p.network
  pub closed : All (IsWalk (problem_net p).arcs) p.table
  pub small : IsSmallTable p.table
  pub counts : AreNets (length p.network.rows) p.table nets
  pub passages : ArePassages (length p.network.rows) (length p.table) p.table by_row
  pub at_root : bounds ≡ map (odijk_range (problem_net p) (root_slacks (problem_net p))) p.table
  pub ends : AreOffsetEnds bounds
  pub between : All (IsSmallRange p.network.period) bounds
