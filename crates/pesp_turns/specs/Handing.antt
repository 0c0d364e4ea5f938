-- Work that is handed in for a leaf that was just lent.
use Rattle.std.specs.Prelude.{◌≡◌, ℕ, List, Bool, true, false}
use Rattle.std.specs.Global.{Vec}
use Rattle.pesp_problem.specs.declared.pair.Pair.{Pair}
use Rattle.pesp_problem.specs.declared.cut.Cut.{Cut}
use Rattle.pesp_problem.specs.Nodes.{LeavesBoth}
use Rattle.pesp_network.specs.Networks.{KeepsNetLimits}
use Rattle.pesp_truth.specs.declared.tree.TreeLine.{TreeLine}
use Rattle.pesp_truth.specs.Trees.{Leaf, CutExists}
use Rattle.pesp_nodes.specs.Problems.{ProblemValue, problem_net, IsSmallTable}
use Rattle.pesp_tree.specs.declared.job.Job.{Job}
use Rattle.pesp_tree.specs.declared.work.Work.{Work}
use Rattle.pesp_tree.specs.declared.work.Work.TheVariants as works
use Rattle.pesp_tree.specs.States.{State, HasLeaf, node_at}
use Rattle.pesp_tree.specs.Reached.{IsOrderly}
use Rattle.pesp_tree.specs.Events.{LendsLeaf, Takes, MakesTooMuch, IsValidAt}
use Rattle.pesp_branching.specs.Rooms.{IsCounted}
use Rattle.pesp_branching.specs.Turns.{AreStep}

-- a leaf was just lent, on a board that keeps its limits
pub record IsJustLent (p : ProblemValue) (state : State) (job : Job) : Type 0 where
  pub limits : KeepsNetLimits p.network
  pub small : IsSmallTable p.table
  pub before : State
  pub orderly : IsOrderly p before
  pub lends : LendsLeaf p before job state

-- the number is lent with a leaf, and the work is valid at its node
pub record IsHandedIn (p : ProblemValue) (state : State) (job : Job) (work : Work) : Type 0 where
  pub pairs : List Pair
  pub leaf : HasLeaf state job.number job.path.items pairs
  pub valid : IsValidAt p (node_at p job.path.items) pairs work

-- the work is taken; or it isn't, since the tree would pass a limit
abbrev pub IsGiven : ProblemValue → State → ℕ → Work → Bool → State → Type 0
IsGiven p old number work true new = Takes p old number work new
IsGiven p old number work false new = (new ≡ old) × MakesTooMuch p old number work

-- a cut that exists and counts, and leaves both sides a value at the node of the leaf that was just lent
pub record IsSplitAt (p : ProblemValue) (state : State) (job : Job) (cut : Cut) : Type 0 where
  pub lent : IsJustLent p state job
  pub exists : CutExists (problem_net p) p.table cut
  pub both : LeavesBoth (node_at p job.path.items) cut
  pub counted : IsCounted (problem_net p) p.table cut

-- lines of a cut that counts, with a leaf on either side, are given
pub record IsStepGiven (p : ProblemValue) (old : State) (number : ℕ) (taken : Bool) (new : State) : Type 0 where
  pub cut : Cut
  pub counted : IsCounted (problem_net p) p.table cut
  pub lines : Vec TreeLine
  pub low : Leaf
  pub high : Leaf
  pub step : AreStep lines.items cut low high
  pub given : IsGiven p old number (works.Tree lines) taken new
