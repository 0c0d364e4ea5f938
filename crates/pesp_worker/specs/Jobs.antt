-- The open leaves of a certificate, as jobs with their values.
use Rattle.std.specs.Prelude.{ℕ, List, map, All}
use Rattle.pesp_problem.specs.declared.cut.Cut.{Cut}
use Rattle.pesp_problem.specs.declared.cut.Side.{Side}
use Rattle.pesp_problem.specs.declared.pair.Pair.{Pair}
use Rattle.pesp_problem.specs.Timetables.{Pesp}
use Rattle.pesp_truth.specs.Certificates.{Content}
use Rattle.pesp_nodes.specs.Problems.{ProblemValue}
use Rattle.pesp_tree.specs.declared.job.Job.{Job}
use Rattle.pesp_tree.specs.States.{State, IsJobLeaf}
use Rattle.pesp_turns.specs.declared.open_job.OpenJob.{OpenJob}
use Rattle.pesp_worker.specs.Lent.{IsLentFrom}

-- a job by its number and the path to its leaf
abbrev pub job_and_path : Job → ℕ × List (Cut × Side)
job_and_path job = (job.number, job.path.items)

-- the value is that of the leaf that is lent under the job's number, as it is told
abbrev pub HasItsValue : ProblemValue → State → OpenJob → Type 0
HasItsValue p state leaf = (pairs : List Pair) × IsJobLeaf p state leaf.job.number leaf.value pairs

-- the open leaves of a base, in preorder, each with its value
pub record AreOpenJobs (instance : Pesp) (base : Content) (opens : List OpenJob) : Type 0 where
  pub problem : ProblemValue
  pub state : State
  pub lent : IsLentFrom instance base problem (map (λ leaf. leaf.job) opens) state
  pub values : All (HasItsValue problem state) opens
