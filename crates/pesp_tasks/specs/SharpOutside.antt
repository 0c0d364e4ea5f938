-- What work on certificates that may have a front writes, and when it tells which fault.
use Rattle.std.specs.Prelude.{ℕ, List, Option}
use Rattle.pesp_problem.specs.Timetables.{Pesp}
use Rattle.pesp_cert.specs.Fronted.{Fronted}
use Rattle.pesp_turns.specs.declared.open_job.OpenJob.{OpenJob}
use Rattle.pesp_turns.specs.JobsTexts.{jobs_text}
use Rattle.pesp_sharp_work.specs.Jobs.{AreSharpJobs, AreJobsOf}
use Rattle.pesp_sharp_search.specs.Keeping.{IsSharpWorked}
use Rattle.pesp_sharp_work.specs.Grafts.{IsSharpGrafted}
use Rattle.pesp_sharp_work.specs.declared.sharp_graft.SharpReply.{SharpReply}
use Rattle.pesp_runs.specs.declared.fault.Fault.{Fault}
use Rattle.pesp_runs.specs.declared.fault.Fault.TheVariants.{NoJob, Memory}
use Rattle.pesp_runs.specs.Fronts.{WritesFronted}
use Rattle.pesp_tasks.specs.Replies.{lines_from}

-- ---- split

-- the writer got what the relation says of the text of the open leaves of the base as jobs
pub record WritesSharpJobs (p : Pesp) (base : Fronted) (Gets : List ℕ → Type 0) : Type 0 where
  pub jobs : List OpenJob
  pub are_open : AreSharpJobs p base jobs
  pub written : Gets (jobs_text jobs)

-- ---- work

-- each number is that of an open leaf, and the writer got the text of a certificate to which work on these leaves leads
abbrev pub WritesSharpWork : Pesp → Fronted → List ℕ → ℕ → Option ℕ → (List ℕ → Type 0) → Type 0
WritesSharpWork p base jobs steps until Gets = AreJobsOf p base jobs × WritesFronted p (IsSharpWorked p base jobs steps until) Gets

-- why there is no work for one of the numbers
abbrev pub SharpJobCause : Fault → Pesp → Fronted → List ℕ → Type 0
SharpJobCause NoJob p base jobs = AreJobsOf p base jobs → ⊥
SharpJobCause Memory p base jobs = Unit {0}
SharpJobCause fault p base jobs = ⊥

-- ---- graft

-- the first writer got what its relation says of the text of the certificate with these works grafted onto the base,
-- and the second what its relation says of a line for each work
pub record WritesSharpGraft (p : Pesp) (base : Fronted) (works : List ℕ) (Gets Tells : List ℕ → Type 0) : Type 0 where
  pub replies : List SharpReply
  pub grafted : WritesFronted p (IsSharpGrafted p base works replies) Gets
  pub told : Tells (lines_from 1 replies)
