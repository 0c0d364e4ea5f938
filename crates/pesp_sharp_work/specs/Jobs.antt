-- The open leaves of a certificate, as jobs.
use Rattle.std.specs.Prelude.{◌≡◌, ℕ, ◌+◌, ◌<◌, List, [], ◌∷◌, ◌++◌, length, map, All, Bool, true, nat_lt, if◌then◌else◌, Option, Some, None}
use Rattle.pesp_problem.specs.declared.cut.Cut.{Cut}
use Rattle.pesp_problem.specs.declared.cut.Side.{Side}
use Rattle.pesp_problem.specs.declared.cut.Side.TheVariants.{Low, High}
use Rattle.pesp_problem.specs.Timetables.{Pesp}
use Rattle.pesp_truth.specs.Trees.{Line, EndLine, CutLine}
use Rattle.pesp_truth.specs.Certificates.{lines_of, cost_of}
use Rattle.pesp_cert.specs.Fronted.{Fronted}
use Rattle.pesp_whole_check.specs.Costs.{shown_of}
use Rattle.pesp_turns.specs.declared.open_job.OpenJob.{OpenJob}

-- the cuts that lead to a line, each with the side that is taken
abbrev pub Path : Type 0
Path = List (Cut × Side)

-- a job: its number, the path to its leaf, and what the leaf shows
pub record SharpJob : Type 0 where
  pub number : ℕ
  pub path : Path
  pub value : ℕ

-- a leaf that shows so much is open where the times cost more, or there are none
abbrev pub is_open : Option ℕ → ℕ → Bool
is_open None value = true
is_open (Some cost) value = nat_lt value cost

-- the job of a line that shows so much, under this number; none where it is no open leaf
abbrev pub jobs_at_line : Option ℕ → ℕ → Path → Option ℕ → List SharpJob
jobs_at_line cost number path None = []
jobs_at_line cost number path (Some value) =
    if is_open cost value then record { number = number; path = path; value = value } ∷ [] else []

-- the paths that wait after a line
abbrev pub paths_after : Line → List Path → List Path
paths_after line [] = []
paths_after (EndLine leaf) (path ∷ paths) = paths
paths_after (CutLine cut) (path ∷ paths) = (path ++ (cut, Low) ∷ []) ∷ (path ++ (cut, High) ∷ []) ∷ paths

-- the jobs of lines that show so much, the first line at the first of the paths that wait; numbered on from this number
abbrev pub jobs_in : Option ℕ → ℕ → List Line → List (Option ℕ) → List Path → List SharpJob
jobs_in cost number [] shown paths = []
jobs_in cost number (line ∷ lines) [] paths = []
jobs_in cost number (line ∷ lines) (value ∷ shown) [] = []
jobs_in cost number (line ∷ lines) (value ∷ shown) (path ∷ paths) =
    jobs_at_line cost number path value
    ++ jobs_in cost (number + length (jobs_at_line cost number path value)) lines shown (paths_after line (path ∷ paths))

-- the jobs of a certificate
abbrev pub jobs_of : Pesp → Fronted → List SharpJob
jobs_of p base = jobs_in (cost_of base.content.answer) 0 (lines_of base.content) (shown_of p base) ([] ∷ [])

-- a job as it is told
abbrev pub told_job : OpenJob → SharpJob
told_job leaf = record { number = leaf.job.number; path = leaf.job.path.items; value = leaf.value }

-- these are the jobs of the certificate
abbrev pub AreSharpJobs : Pesp → Fronted → List OpenJob → Type 0
AreSharpJobs p base opens = map told_job opens ≡ jobs_of p base

-- how many of the lines that show so much are open leaves
abbrev pub count_open : Option ℕ → List (Option ℕ) → ℕ
count_open cost [] = 0
count_open cost (None ∷ shown) = count_open cost shown
count_open cost (Some value ∷ shown) = if is_open cost value then 1 + count_open cost shown else count_open cost shown

-- each number is that of an open leaf of the certificate
abbrev pub AreJobsOf : Pesp → Fronted → List ℕ → Type 0
AreJobsOf p base jobs = All (λ job. job < count_open (cost_of base.content.answer) (shown_of p base)) jobs
