-- How many leaves are open.
use Rattle.std.specs.Prelude.{◌≡◌, ◌≢◌, ℕ, List, length, All, Contains}
use Rattle.std.specs.List.{AllPairs}
use Rattle.pesp_problem.specs.declared.cut.Cut.{Cut}
use Rattle.pesp_problem.specs.declared.cut.Side.{Side}
use Rattle.pesp_nodes.specs.Problems.{ProblemValue}
use Rattle.pesp_tree.specs.States.{State, IsOpen}

-- so many leaves are open: these are the paths to them, each once
pub record AreOpen (p : ProblemValue) (state : State) (count : ℕ) : Type 0 where
  pub paths : List (List (Cut × Side))
  pub differ : AllPairs (λ a b. a ≢ b) paths
  pub opens : All (IsOpen p state) paths
  pub each : (path : List (Cut × Side)) → IsOpen p state path → Contains paths path
  pub number : count ≡ length paths
