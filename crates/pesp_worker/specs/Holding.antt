-- Leaves that are lent to the work.
use Rattle.std.specs.Prelude.{ℕ, ◌≢◌, List, length}
use Rattle.pesp_problem.specs.declared.pair.Pair.{Pair}
use Rattle.pesp_problem.specs.declared.cut.Cut.{Cut}
use Rattle.pesp_problem.specs.declared.cut.Side.{Side}
use Rattle.pesp_tree.specs.States.{State, HasLeaf}
use Rattle.pesp_nodes.specs.Problems.{ProblemValue, ArePairs}
use Rattle.pesp_board.specs.Grafting.{IsReached}
use Rattle.pesp_worker.specs.declared.held_leaves.Held.{Held}

-- a path leads to the leaf's node, and its pairs rise and keep their limits
pub record IsHeld (p : ProblemValue) (held : Held) : Type 0 where
  pub node : IsReached p held.node
  pub pairs : ArePairs (length p.table) held.pairs

-- the leaves with which other numbers are lent are lent with them still
abbrev pub KeepsOthers : State → ℕ → State → Type 0
KeepsOthers old number new = (other : ℕ) (path : List (Cut × Side)) (pairs : List Pair) → other ≢ number
    → HasLeaf old other path pairs → HasLeaf new other path pairs
