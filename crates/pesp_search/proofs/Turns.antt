-- Turns from a root that was looked at, until their end.
use Rattle.std.proofs.Common.{◌≡◌, ℕ, ◌≤◌, ◌⊎◌, inl, inr, List, arith}
use Rattle.pesp_problem.specs.declared.cut.Cut.{Cut}
use Rattle.pesp_problem.specs.declared.cut.Side.{Side}
use Rattle.pesp_network.specs.Networks.{KeepsNetLimits}
use Rattle.pesp_nodes.specs.Problems.{ProblemValue}
use Rattle.pesp_tree.specs.States.{State, IsOpen}
use Rattle.pesp_tree.proofs.Runs.{best_never_rises}
use Rattle.pesp_reduce.specs.Reductions.{ReducedValue}
use Rattle.pesp_branching.specs.Turns.{IsWorked}
use Rattle.pesp_turns.specs.declared.ending.Ending.TheVariants.{StepsUsed, NoneOpen, TreeTooLarge}
use Rattle.pesp_turns.specs.Growing.{Grows}
use Rattle.pesp_turns.specs.Counting.{IsWorkedFrom, AreTurns}
use Rattle.pesp_turns.specs.Endings.{AreLentSettled, EndsAs}
use Rattle.pesp_search.specs.Refusals.{FillsTree}
use Rattle.pesp_search.specs.Searching.{AreAllTurns}

-- no leaf is lent, so none that is lent is open
none_lent : (p : ProblemValue) (used : ℕ) (state : State) → IsWorked p used state → AreLentSettled p state
none_lent p used state w number path e = absurd (w.unlent number (path, e))

-- the tree is full
pub fills_tree : (p : ProblemValue) (r : ReducedValue) (steps used : ℕ) (old new : State) → used ≤ steps
    → Grows p used old new → IsWorked p 0 old → AreTurns p steps old used TreeTooLarge new
    → (AreLentSettled p old → EndsAs p r steps old used TreeTooLarge new) → FillsTree p steps
fills_tree p r steps used old new few g was many ends = record {
  many = many;
  first = old;
  worked = was;
  used = used;
  few = few;
  last = new;
  grows = g;
  full = ends (none_lent p 0 old was);
}

all_turns : (p : ProblemValue) (steps used : ℕ) (old new : State) → KeepsNetLimits p.network → used ≤ steps
    → Grows p used old new → IsWorked p 0 old → IsWorkedFrom p used old new
    → (used ≡ steps) ⊎ ((path : List (Cut × Side)) → IsOpen p new path → ⊥) → AreAllTurns p steps old used new
all_turns p steps used old new limits few g was w finished = record {
  worked = w.worked;
  few = few;
  finished = finished;
  least = w.least;
  best = best_never_rises p g.events old new (let some = limits.some_period in omega (arith, some)) was.orderly.kept g.run;
}

pub all_used : (p : ProblemValue) (steps used : ℕ) (old new : State) → KeepsNetLimits p.network → used ≤ steps
    → Grows p used old new → IsWorked p 0 old → AreTurns p steps old used StepsUsed new
    → AreAllTurns p steps old used new
all_used p steps used old new limits few g was t = all_turns p steps used old new limits few g was t.0 (inl t.1)

pub none_open : (p : ProblemValue) (steps used : ℕ) (old new : State) → KeepsNetLimits p.network → used ≤ steps
    → Grows p used old new → IsWorked p 0 old → AreTurns p steps old used NoneOpen new
    → AreAllTurns p steps old used new
none_open p steps used old new limits few g was t = all_turns p steps used old new limits few g was t.0 (inr t.1)
