-- The marked walks of a certificate.
use Rattle.std.specs.Prelude.{ℕ, ◌<◌, List, All}
use Rattle.pesp_problem.specs.declared.arc.Arc.{Arc}
use Rattle.pesp_problem.specs.declared.marked.MarkedRow.{MarkedRow}
use Rattle.pesp_problem.specs.Marked.{IsMarkedWalk}

-- the marked walks, and the scale of the leaves that name more than cycles
pub record Marks : Type 0 where
  pub scale : ℕ
  pub walks : List (List MarkedRow)

-- the scale is above 0, and the walks are closed
pub record AreMarks (arcs : List Arc) (marks : Marks) : Type 0 where
  pub scale : 0 < marks.scale
  pub walks : All (IsMarkedWalk arcs) marks.walks
