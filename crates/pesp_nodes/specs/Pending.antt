-- What a walk over the nodes of a tree keeps of its way, and what it may cut.
use Rattle.std.specs.Prelude.{ℕ, ◌≤◌, List, [], ◌∷◌, All}
use Rattle.pesp_problem.specs.declared.limits.TheConstants.{MOST_PERIOD}
use Rattle.pesp_problem.specs.declared.cut.Cut.{Cut}
use Rattle.pesp_problem.specs.declared.cut.Cut.TheVariants.{Slack, Offset}
use Rattle.pesp_problem.specs.Nodes.{Node}
use Rattle.pesp_problem.specs.declared.path.Change.{Change}
use Rattle.pesp_problem.specs.declared.path.Change.TheVariants.{Slack as SlackChange, Offset as OffsetChange}
use Rattle.pesp_problem.specs.declared.path.Branch.{Branch}
use Rattle.pesp_nodes.specs.Offsets.{IsOffsetEnds}
use Rattle.pesp_nodes.specs.Problems.{IsCutOf}
use Rattle.pesp_problem.specs.Ranges.{IsCut}

-- a change that a cut can make among so many rows and cycles
abbrev pub IsChange : ℕ → ℕ → Change → Type 0
IsChange rows cycles (SlackChange row k was) = IsCut rows cycles (Slack row k) × (was.0 ≤ MOST_PERIOD) × (was.1 ≤ MOST_PERIOD)
IsChange rows cycles (OffsetChange cycle k was) = IsCut rows cycles (Offset cycle k) × IsOffsetEnds was

-- changes that the cuts of a path can make
abbrev pub AreChanges : ℕ → ℕ → List Branch → Type 0
AreChanges rows cycles path = All (λ branch. IsChange rows cycles branch.change) path

-- the cut is one of the first of the nodes
abbrev pub CutsFirst : List Node → Cut → Type 0
CutsFirst [] cut = ⊥
CutsFirst (node ∷ nodes) cut = IsCutOf node cut
