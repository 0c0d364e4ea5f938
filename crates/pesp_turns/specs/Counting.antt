-- Turns on a board that was worked on from its opening, or from its root's first look, by turns alone.
use Rattle.std.specs.Prelude.{◌≡◌, ℕ, ◌+◌, ◌*◌, ◌<◌, List, length}
use Rattle.pesp_problem.specs.declared.limits.TheConstants.{MOST_PAIRS}
use Rattle.pesp_problem.specs.declared.cut.Cut.{Cut}
use Rattle.pesp_problem.specs.declared.cut.Side.{Side}
use Rattle.pesp_nodes.specs.Problems.{ProblemValue}
use Rattle.pesp_tree.specs.States.{State, IsOpen, IsAtMost, least}
use Rattle.pesp_branching.specs.Turns.{IsWorked}
use Rattle.pesp_turns.specs.declared.ending.Ending.{Ending}
use Rattle.pesp_turns.specs.declared.ending.Ending.TheVariants.{StepsUsed, NoneOpen, NumbersSpent, TreeTooLarge, TurnsUsed}

-- so many leaves were split, and the least value didn't fall
pub record IsWorkedFrom (p : ProblemValue) (used : ℕ) (old new : State) : Type 0 where
  pub worked : IsWorked p used new
  pub least : IsAtMost (least p old) (least p new)

-- how turns of at most so many splits end: all are used up, no leaf is open, or the tree would have too many pairs
abbrev pub AreTurns : ProblemValue → ℕ → State → ℕ → Ending → State → Type 0
AreTurns p steps old used StepsUsed new = IsWorkedFrom p used old new × (used ≡ steps)
AreTurns p steps old used NoneOpen new = IsWorkedFrom p used old new × ((path : List (Cut × Side)) → IsOpen p new path → ⊥)
AreTurns p steps old used NumbersSpent new = ⊥
AreTurns p steps old used TreeTooLarge new = MOST_PAIRS < (steps + 1) * length p.table
AreTurns p steps old used TurnsUsed new = ⊥
