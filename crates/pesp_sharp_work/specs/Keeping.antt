-- Which open leaves of a certificate stay as they are where some of them are worked on.
use Rattle.std.specs.Prelude.{◌≡◌, ◌⊎◌, ℕ, ◌<◌, List, [], ◌∷◌, length, slice_index_or, true, false, Option}
use Rattle.pesp_problem.specs.Timetables.{Pesp}
use Rattle.pesp_truth.specs.Certificates.{cost_of}
use Rattle.pesp_cert.specs.Fronted.{Fronted}
use Rattle.pesp_branching.specs.Turns.{IsOpenAnswer}
use Rattle.pesp_sharp_work.specs.Jobs.{SharpJob, is_open, jobs_of}

-- a job whose leaf may be worked on: its number is one of these, and it is worth less than the bound, where one is named
abbrev pub MayBeWorkedOn : List ℕ → Option ℕ → SharpJob → Type 0
MayBeWorkedOn jobs until job = ((i : ℕ) × (i < length jobs) × (slice_index_or jobs i job.number ≡ job.number))
    × (is_open until job.value ≡ true)

-- some job has the same path and the same value
abbrev pub IsAmong : List SharpJob → SharpJob → Type 0
IsAmong others job = (i : ℕ) × (i < length others) × ((slice_index_or others i job).path ≡ job.path)
    × ((slice_index_or others i job).value ≡ job.value)

-- a job may be worked on, or isn't below the cost, or is among the others
abbrev pub KeepsLeaf : List ℕ → Option ℕ → Option ℕ → List SharpJob → SharpJob → Type 0
KeepsLeaf jobs until cost others job = MayBeWorkedOn jobs until job ⊎ (is_open cost job.value ≡ false) ⊎ IsAmong others job

-- so each of some jobs
abbrev pub KeepLeaves : List ℕ → Option ℕ → Option ℕ → List SharpJob → List SharpJob → Type 0
KeepLeaves jobs until cost others [] = Unit {0}
KeepLeaves jobs until cost others (job ∷ more) = KeepsLeaf jobs until cost others job × KeepLeaves jobs until cost others more

-- where the answer of what comes of the work is open, each open leaf of the base that wasn't to be worked on, and that costs less
-- than the times that are known then, is an open leaf at the end of the same path, and shows as much
abbrev pub KeepsOtherLeaves : Pesp → Fronted → List ℕ → Option ℕ → Fronted → Type 0
KeepsOtherLeaves p base jobs until c = IsOpenAnswer c.content.answer
    → KeepLeaves jobs until (cost_of c.content.answer) (jobs_of p c) (jobs_of p base)
