-- Decided nodes: each cycle has one offset, and no slacks have these offsets.
use Rattle.std.specs.Prelude.{◌≡◌, ⊤, ℕ, ◌<◌, ◌≤◌, length}
use Rattle.pesp_problem.specs.Forests.{AreFundamental}
use Rattle.pesp_problem.specs.Nodes.{Node, slack_range, offset_range, LieIn}
use Rattle.pesp_nodes.specs.Problems.{ProblemValue, problem_net}
use Rattle.pesp_bound.specs.declared.leaf.Leaf.{Leaf}
use Rattle.pesp_bound.specs.declared.leaf.Leaf.TheVariants.{Gap, Nothing, Bound}
use Rattle.pesp_bound.specs.Leaves.{HasNoGap}

-- the table has the fundamental walks of the network's forest; each slack range has a value, each offset range has one
-- value, and that offset is left; but no slacks of the ranges have these offsets on all cycles
pub record IsDecided (p : ProblemValue) (node : Node) : Type 0 where
  pub fundamental : AreFundamental (problem_net p).arcs p.network.forest p.table
  pub slacks : (i : ℕ) → i < length p.network.rows → (slack_range node.slacks i).0 ≤ (slack_range node.slacks i).1
  pub offsets : (c : ℕ) → c < length p.table → (offset_range node.offsets c).0 ≡ (offset_range node.offsets c).1
  pub left : HasNoGap p node
  pub empty : (slacks : ℕ → ℕ) → LieIn (problem_net p) p.table slacks node → ⊥

-- the leaf shows that no timetable lies in its node, by pairs of value above 0 with all weights 0
abbrev pub IsNothing : Leaf → Type 0
IsNothing (Gap cycle) = ⊥
IsNothing (Nothing pairs) = ⊤
IsNothing (Bound pairs value) = ⊥
