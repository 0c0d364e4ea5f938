-- The state of a board: a tree under work, what became of the numbers, and the best times.
use Rattle.std.specs.Prelude.{◌≡◌, ℕ, ◌≤◌, List, [], slice_index_or, ℤ, pos, ◌<ℤ◌, Option, Some, None, IsSomeAnd, option_map, true}
use Rattle.pesp_problem.specs.declared.pair.Pair.{Pair}
use Rattle.pesp_problem.specs.declared.cut.Cut.{Cut}
use Rattle.pesp_problem.specs.declared.cut.Side.{Side}
use Rattle.pesp_problem.specs.NetTimetables.{net_cost}
use Rattle.pesp_problem.specs.Nodes.{Node, leaf_value, root}
use Rattle.pesp_truth.specs.Trees.{Tree, Ends, Bound}
use Rattle.pesp_truth.specs.Paths.{along}
use Rattle.pesp_nodes.specs.Problems.{ProblemValue, problem_net}
use Rattle.pesp_truth.specs.Leaves.{IsLeafAt}
use Rattle.pesp_tree.specs.BoardLeaves.{least_value, told}

-- what became of a number: it is lent with the leaf at a path, something was taken for it, or it was recalled
pub data Ticket : Type 0 where
  Lent : List (Cut × Side) → Ticket
  Given : Ticket
  Recalled : Ticket

-- a tree of leaves with their pairs, the numbers that were ever lent, from 0, and the best times, where there are any
pub record State : Type 0 where
  pub tree : Tree
  pub numbers : List Ticket
  pub best : Option (List ℕ)

-- a board: a problem, and the state of the work on it
pub record BoardValue : Type 0 where
  pub problem : ProblemValue
  pub state : State

-- one bound leaf without pairs, no number and no times
abbrev pub opening : State
opening = record { tree = Ends (Bound []); numbers = []; best = None }

-- ---- numbers

-- what became of a number; one that was never lent is no better known than one that was recalled
abbrev pub ticket : State → ℕ → Ticket
ticket state number = slice_index_or state.numbers number Recalled

-- the number is lent now
abbrev pub IsLentNumber : State → ℕ → Type 0
IsLentNumber state number = (path : List (Cut × Side)) × (ticket state number ≡ Lent path)

-- the leaf at the path is lent now
abbrev pub IsLent : State → List (Cut × Side) → Type 0
IsLent state path = (number : ℕ) × (ticket state number ≡ Lent path)

-- the number is lent with the bound leaf at this path, which has these pairs
abbrev pub HasLeaf : State → ℕ → List (Cut × Side) → List Pair → Type 0
HasLeaf state number path pairs = (ticket state number ≡ Lent path) × IsLeafAt state.tree path (Bound pairs)

-- ---- values

-- the node in which every timetable lies
abbrev pub root_of : ProblemValue → Node
root_of p = root (problem_net p) p.table

-- the node to which a path leads from the root
abbrev pub node_at : ProblemValue → List (Cut × Side) → Node
node_at p path = along (root_of p) path

-- the value of pairs at a path, with the rows' weights
abbrev pub value_at : ProblemValue → List (Cut × Side) → List Pair → Option ℤ
value_at p path pairs = leaf_value (problem_net p) p.table (node_at p path) pairs true

-- the least value of a bound leaf, as it is told
abbrev pub least : ProblemValue → State → Option ℕ
least p state = option_map told (least_value (problem_net p) p.table state.tree (root_of p))

-- the cost of the best times
abbrev pub best_cost : ProblemValue → State → Option ℕ
best_cost p state = option_map (net_cost (problem_net p)) state.best

-- at most; none stands above every number
abbrev pub IsAtMost : Option ℕ → Option ℕ → Type 0
IsAtMost a None = Unit {0}
IsAtMost None (Some b) = ⊥
IsAtMost (Some a) (Some b) = a ≤ b

-- there is no best cost, or there is a value and it is below that cost
abbrev pub IsBelow : Option ℤ → Option ℕ → Type 0
IsBelow value None = Unit {0}
IsBelow value (Some c) = IsSomeAnd value (λ v. v <ℤ pos c)

-- the path leads to a bound leaf that isn't lent, and whose value is below the best cost, where there is one
pub record IsOpen (p : ProblemValue) (state : State) (path : List (Cut × Side)) : Type 0 where
  pub pairs : List Pair
  pub leaf : IsLeafAt state.tree path (Bound pairs)
  pub unlent : IsLent state path → ⊥
  pub cheaper : IsBelow (value_at p path pairs) (best_cost p state)

-- the number is lent with a leaf of these pairs, which has this value as it is told
pub record IsJobLeaf (p : ProblemValue) (state : State) (number value : ℕ) (pairs : List Pair) : Type 0 where
  pub path : List (Cut × Side)
  pub leaf : HasLeaf state number path pairs
  pub worth : option_map told (value_at p path pairs) ≡ Some value

-- what is told of a number: the value and the pairs of the leaf with which it is lent, none for any other number
abbrev pub TellsLeaf : ProblemValue → State → ℕ → Option (ℕ × List Pair) → Type 0
TellsLeaf p state number None = IsLentNumber state number → ⊥
TellsLeaf p state number (Some leaf) = IsJobLeaf p state number leaf.0 leaf.1
