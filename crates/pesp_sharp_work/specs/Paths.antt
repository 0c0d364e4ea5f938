-- The paths that wait, as the path to the present line tells them.
use Rattle.std.specs.Prelude.{List, [], ◌∷◌, ◌++◌, Bool, true, false, Option, Some, None}
use Rattle.pesp_problem.specs.declared.cut.Cut.{Cut}
use Rattle.pesp_problem.specs.declared.cut.Side.{Side}
use Rattle.pesp_problem.specs.declared.cut.Side.TheVariants.{Low, High}
use Rattle.pesp_truth.specs.Trees.{Line, EndLine, CutLine}
use Rattle.pesp_sharp_work.specs.Jobs.{Path}

-- the cut of a branch
abbrev pub cut_in : Line → Option Cut
cut_in (EndLine leaf) = None
cut_in (CutLine cut) = Some cut

-- the path to a second part waits while the path goes through the first
abbrev pub paths_beside : Path → Cut → Side → List Path
paths_beside before cut Low = (before ++ (cut, High) ∷ []) ∷ []
paths_beside before cut High = []

-- the paths that wait beside the steps of a path, which stand behind these, the nearest first
abbrev pub paths_behind : Path → Path → List Path
paths_behind before [] = []
paths_behind before (step ∷ path) = paths_behind (before ++ step ∷ []) path ++ paths_beside before step.0 step.1

-- the paths that wait once a line at the end of a path is passed that is a leaf
abbrev pub paths_passed : Path → List Path
paths_passed path = paths_behind [] path

-- the present path, where there is one, and those that wait behind it
abbrev pub paths_waiting : Bool → Path → List Path
paths_waiting true path = path ∷ paths_passed path
paths_waiting false path = []

-- the paths to the parts of a branch in the place of that to it
abbrev pub paths_branched : Path → Cut → List Path
paths_branched path cut = (path ++ (cut, Low) ∷ []) ∷ (path ++ (cut, High) ∷ []) ∷ paths_passed path
