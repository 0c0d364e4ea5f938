-- Open leaves that are looked at anew.
use Rattle.std.specs.Prelude.{◌≡◌, ◌+◌, List, length, Option, Some, None}
use Rattle.pesp_problem.specs.declared.pair.Pair.{Pair}
use Rattle.pesp_network.specs.Networks.{KeepsNetLimits}
use Rattle.pesp_nodes.specs.Problems.{ProblemValue, IsSmallTable}
use Rattle.pesp_tree.specs.declared.job.Job.{Job}
use Rattle.pesp_tree.specs.States.{State, HasLeaf}
use Rattle.pesp_tree.specs.Reached.{IsOrderly}
use Rattle.pesp_tree.specs.Events.{LendsLeaf}
use Rattle.pesp_turns.specs.declared.resume_ending.ResumeEnding.{ResumeEnding}
use Rattle.pesp_turns.specs.declared.second_look.Next.{Next}
use Rattle.pesp_turns.specs.declared.second_look.Next.TheVariants.{Lent, Over}
use Rattle.pesp_turns.specs.ResumeEndings.{IsEndedAs}

-- the job's number is lent with the leaf at its path, on a board that keeps its limits
pub record IsLentTo (p : ProblemValue) (state : State) (job : Job) : Type 0 where
  pub limits : KeepsNetLimits p.network
  pub small : IsSmallTable p.table
  pub orderly : IsOrderly p state
  pub pairs : List Pair
  pub leaf : HasLeaf state job.number job.path.items pairs

-- an open leaf was lent, or none waits, or the numbers are spent
abbrev pub IsNextLeaf : ProblemValue → State → Next → State → Type 0
IsNextLeaf p old (Lent job) new = LendsLeaf p old job new
IsNextLeaf p old (Over ending) new = IsEndedAs p 0 ⊥ old new 0 ending

-- a leaf was looked at, for which a number was spent; or none waits, or the numbers are spent
abbrev pub IsLook : ProblemValue → State → Option ResumeEnding → State → Type 0
IsLook p old None new = length new.numbers ≡ length old.numbers + 1
IsLook p old (Some ending) new = IsEndedAs p 0 ⊥ old new 0 ending
