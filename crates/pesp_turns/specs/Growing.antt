-- How a board's tree grows by turns.
use Rattle.std.specs.Prelude.{◌≡◌, ℕ, ◌+◌, List}
use Rattle.pesp_nodes.specs.Problems.{ProblemValue}
use Rattle.pesp_tree.specs.States.{State}
use Rattle.pesp_tree.specs.Events.{Event, Run}
use Rattle.pesp_branching.specs.Rooms.{branches}

-- events lead from the one state to the other, whose tree has so many branches more
pub record Grows (p : ProblemValue) (splits : ℕ) (old new : State) : Type 0 where
  pub events : List Event
  pub run : Run p old events new
  pub branches : branches new.tree ≡ branches old.tree + splits
