-- What a walk over the nodes of a tree keeps of its way, and what it stands for.
use Rattle.std.specs.Prelude.{ℕ, ◌≤◌, List, All}
use Rattle.pesp_problem.specs.declared.limits.TheConstants.{MOST_PERIOD}
use Rattle.pesp_problem.specs.declared.cut.Cut.TheVariants.{Slack, Offset}
use Rattle.pesp_problem.specs.Timetables.{Pesp}
use Rattle.pesp_problem.specs.Nodes.{Node}
use Rattle.pesp_problem.specs.declared.path.Change.{Change}
use Rattle.pesp_problem.specs.declared.path.Change.TheVariants.{Slack as SlackChange, Offset as OffsetChange}
use Rattle.pesp_problem.specs.declared.path.Branch.{Branch}
use Rattle.pesp_problem.specs.Ranges.{IsCut}

-- a change that a cut can make among so many rows and cycles
abbrev pub IsChange : ℕ → ℕ → Change → Type 0
IsChange rows cycles (SlackChange row k was) = IsCut rows cycles (Slack row k) × (was.0 ≤ MOST_PERIOD) × (was.1 ≤ MOST_PERIOD)
IsChange rows cycles (OffsetChange cycle k was) = IsCut rows cycles (Offset cycle k)

-- changes that the cuts of a path can make
abbrev pub AreChanges : ℕ → ℕ → List Branch → Type 0
AreChanges rows cycles path = All (λ branch. IsChange rows cycles branch.change) path

-- a problem, the number of cycles, and the nodes that wait, the present one first
pub record Standing : Type 0 where
  pub problem : Pesp
  pub cycles : ℕ
  pub nodes : List Node
