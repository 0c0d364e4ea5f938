-- What holds of every state that events lead to.
use Rattle.std.specs.Prelude.{◌≡◌, ℕ, List, Some, IfSome, None}
use Rattle.pesp_problem.specs.declared.pair.Pair.{Pair}
use Rattle.pesp_problem.specs.declared.cut.Cut.{Cut}
use Rattle.pesp_problem.specs.declared.cut.Side.{Side}
use Rattle.pesp_problem.specs.NetTimetables.{IsNetTimetable}
use Rattle.pesp_truth.specs.Trees.{Plain, Bound, IsSound}
use Rattle.pesp_nodes.specs.Problems.{ProblemValue, problem_net}
use Rattle.pesp_truth.specs.Leaves.{IsLeafAt}
use Rattle.pesp_tree.specs.States.{State, Lent, ticket, root_of}
use Rattle.pesp_tree.specs.Limits.{KeepsTreeLimits}

-- the tree is sound for a least cost of 0, and the best times are a timetable
pub record IsKept (p : ProblemValue) (state : State) : Type 0 where
  pub tree : IsSound (Plain (Some 0)) (problem_net p) p.table state.tree (root_of p)
  pub best : IfSome state.best (IsNetTimetable (problem_net p) p.network.events)

-- each number that is lent has a bound leaf, and no two numbers have the same one
pub record AreLentApart (state : State) : Type 0 where
  pub leaf : (number : ℕ) (path : List (Cut × Side)) → ticket state number ≡ Lent path
      → (pairs : List Pair) × IsLeafAt state.tree path (Bound pairs)
  pub apart : (a b : ℕ) (path : List (Cut × Side)) → ticket state a ≡ Lent path → ticket state b ≡ Lent path → a ≡ b

-- all of it: the state is kept, its tree keeps the limits of a certificate's, and its lent leaves are apart
pub record IsOrderly (p : ProblemValue) (state : State) : Type 0 where
  pub kept : IsKept p state
  pub limits : KeepsTreeLimits p state.tree
  pub lent : AreLentApart state
