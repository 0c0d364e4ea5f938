-- Boards whose cycles are lifted fundamental walks, and leaves at whose node nothing is left to cut.
use Rattle.std.specs.Prelude.{◌≡◌, ℕ, ◌<◌, List, length, slice_index}
use Rattle.pesp_problem.specs.declared.row.SignedRow.{SignedRow}
use Rattle.pesp_problem.specs.Limits.{KeepsLimits}
use Rattle.pesp_problem.specs.Timetables.{IsTimetable, cost}
use Rattle.pesp_problem.specs.NetTimetables.{net_cost}
use Rattle.pesp_problem.specs.Forests.{AreFundamental}
use Rattle.pesp_problem.specs.Arcs.{slacks_at}
use Rattle.pesp_problem.specs.Nodes.{Node}
use Rattle.pesp_network.specs.Networks.{arcs_of_network, net_of_network}
use Rattle.pesp_nodes.specs.Problems.{ProblemValue, problem_net}
use Rattle.pesp_tree.specs.Certificates.{IsProblemOf}
use Rattle.pesp_reduce.specs.Reductions.{ReducedValue}
use Rattle.pesp_branching.specs.Settled.{low_slack, HaveSlacks, KeepSpans, IsSettled, HaveOffsetsLeft}
use Rattle.pesp_branching.specs.Lifted.{IsReduced, AreLifted, AreSlacksOf}

-- the problem is an instance's, with the lifted fundamental walks of what is left of it
pub record IsSearched (p : ProblemValue) (r : ReducedValue) : Type 0 where
  pub of : IsProblemOf r.original p
  pub reduced : IsReduced r
  pub limits : KeepsLimits r.original
  pub walks : List (List SignedRow)
  pub fundamental : AreFundamental (arcs_of_network r.network.rows) r.network.forest walks
  pub lifted : AreLifted r walks p.table

-- a node of such a problem at which no slack range is empty, nothing is left to cut, and each cycle has an offset left
pub record Settles (p : ProblemValue) (r : ReducedValue) (node : Node) : Type 0 where
  pub searched : IsSearched p r
  pub slacks : HaveSlacks (problem_net p) node
  pub spans : KeepSpans (problem_net p) node
  pub settled : IsSettled (problem_net p) p.table node
  pub left : HaveOffsetsLeft (problem_net p) p.table node

-- times of the instance that cost as much as times of what is left at which each row has its least slack
pub record HaveLeastSlacks (r : ReducedValue) (node : Node) (lifted : List ℕ) : Type 0 where
  pub left : List ℕ
  pub slacks : AreSlacksOf r (low_slack node) left
  pub times : List ℕ
  pub same : (j : ℕ) → j < length r.network.rows → slacks_at (net_of_network r.network) times j ≡ slice_index left j
  pub timetable : IsTimetable r.original lifted
  pub costs : cost r.original.period r.original.rows lifted ≡ net_cost (net_of_network r.network) times
