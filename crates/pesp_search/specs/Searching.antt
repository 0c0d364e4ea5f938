-- A search from the root's first look to its last turn.
use Rattle.std.specs.Prelude.{◌≡◌, ◌⊎◌, ⊤, ℕ, ◌≤◌, List, Bool, Some}
use Rattle.pesp_problem.specs.declared.cut.Cut.{Cut}
use Rattle.pesp_problem.specs.declared.cut.Side.{Side}
use Rattle.pesp_problem.specs.NetTimetables.{IsNetTimetable, net_cost}
use Rattle.pesp_nodes.specs.Problems.{ProblemValue, problem_net}
use Rattle.pesp_tree.specs.States.{State, IsOpen, IsAtMost, least, best_cost}
use Rattle.pesp_tree.specs.Events.{Offers}
use Rattle.pesp_branching.specs.Turns.{IsWorked}
use Rattle.pesp_search.specs.Refusals.{FillsTree}
use Rattle.pesp_search.specs.Rooting.{IsRootBound}
use Rattle.pesp_search.specs.declared.refusal.SolveRefusal.{SolveRefusal}
use Rattle.pesp_search.specs.declared.refusal.SolveRefusal.TheVariants.{Memory, TableTooLarge, PairsTooMany}

-- the times are offered, with some reply
abbrev pub AreOffered : ProblemValue → List ℕ → State → State → Type 0
AreOffered p times old new = (kept : Bool) × Offers p old times kept new

-- where the times are a timetable, the best ones cost no more
abbrev pub IsAsCheapAs : ProblemValue → List ℕ → State → Type 0
IsAsCheapAs p times state = IsNetTimetable (problem_net p) p.network.events times
    → IsAtMost (best_cost p state) (Some (net_cost (problem_net p) times))

-- the root was looked at, and these times were offered
pub record IsReady (p : ProblemValue) (times : List ℕ) (state : State) : Type 0 where
  pub worked : IsWorked p 0 state
  pub bound : IsRootBound p state
  pub cheap : IsAsCheapAs p times state

-- turns of at most so many splits: either all are used up, or no leaf is open; the least value doesn't fall, nor the best cost rise
pub record AreAllTurns (p : ProblemValue) (steps : ℕ) (old : State) (used : ℕ) (new : State) : Type 0 where
  pub worked : IsWorked p used new
  pub few : used ≤ steps
  pub finished : (used ≡ steps) ⊎ ((path : List (Cut × Side)) → IsOpen p new path → ⊥)
  pub least : IsAtMost (least p old) (least p new)
  pub best : IsAtMost (best_cost p new) (best_cost p old)

-- why turns of at most so many splits aren't done
abbrev pub AreTurnsRefused : ProblemValue → ℕ → SolveRefusal → Type 0
AreTurnsRefused p steps Memory = ⊤
AreTurnsRefused p steps TableTooLarge = ⊥
AreTurnsRefused p steps PairsTooMany = FillsTree p steps
