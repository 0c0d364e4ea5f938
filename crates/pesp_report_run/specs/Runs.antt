-- What the run reads, writes and tells, and when it tells which fault.
use Rattle.std.specs.Prelude.{◌≡◌, ◌⊎◌, ℕ, ℤ, List, length, Option, All}
use Rattle.pesp_problem.specs.Timetables.{Pesp, IsTimetable}
use Rattle.pesp_truth.specs.Conflicts.{IsNeeded}
use Rattle.pesp_search.specs.declared.refusal.SolveRefusal.TheVariants.{Memory as SearchMemory}
use Rattle.pesp_conflict.specs.Findings.{IsConflict, IsUndecided}
use Rattle.pesp_conflict.specs.Refusals.{IsConflictRefusal}
use Rattle.pesp_conflict.specs.Lists.{listed_lines, list_text}
use Rattle.pesp_check.specs.Devices.{Device, HasFailed, GetsFront}
use Rattle.pesp_runs.specs.Reading.{ReadsInstance}
use Rattle.pesp_runs.specs.Causes.{InstanceCause, OutCause}
use Rattle.pesp_runs.specs.declared.fault.Fault.{Fault}
use Rattle.pesp_runs.specs.declared.fault.Fault.TheVariants.{Search, Memory}
use Rattle.pesp_report_run.specs.declared.told.Told.{Told}
use Rattle.pesp_report_run.specs.declared.told.Told.TheVariants.{Irreducible, Conflict, Timetable, Undecided}

-- the writer got what the relation says of the list of these rows, of which no times keep all, with what events are called
-- where this is told
pub record WritesList (p : Pesp) (naming : Option (ℤ → List ℕ)) (rows : List ℕ) (Gets : List ℕ → Type 0) : Type 0 where
  pub conflict : IsConflict p rows
  pub written : Gets (list_text naming (listed_lines p rows))

-- a list of so many rows of so many was written, of which each is needed where this is told; or nothing was written,
-- since some timetable exists, or a search over all rows used these steps and found neither
abbrev pub Tells : Pesp → Option (ℤ → List ℕ) → ℕ → Told → (List ℕ → Type 0) → Type 0 → Type 0
Tells p naming steps (Irreducible listed of) Gets silent =
    (rows : List ℕ) × WritesList p naming rows Gets × All (IsNeeded p rows) rows × (listed ≡ length rows) × (of ≡ length p.rows)
Tells p naming steps (Conflict listed of) Gets silent =
    (rows : List ℕ) × WritesList p naming rows Gets × (listed ≡ length rows) × (of ≡ length p.rows)
Tells p naming steps Timetable Gets silent = ((times : List ℕ) × IsTimetable p times) × silent
Tells p naming steps (Undecided few) Gets silent = (few ≡ steps) × IsUndecided p steps × silent

-- the reader's text has an instance, and this is told of it
abbrev pub TellsConflict : Option (List ℕ) → Option (List ℕ) → ℕ → ℕ → Option (ℤ → List ℕ) → Told → (List ℕ → Type 0) → Type 0 → Type 0
TellsConflict told left period steps naming answer Gets silent =
    (p : Pesp) × ReadsInstance told left period p × Tells p naming steps answer Gets silent

-- why nothing was found: a limit that a search over some rows met, or memory, which is told as such
abbrev pub FindingCause : Fault → Pesp → ℕ → Type 0
FindingCause (Search SearchMemory) p steps = ⊥
FindingCause (Search refusal) p steps = IsConflictRefusal p steps refusal
FindingCause Memory p steps = Unit {0}
FindingCause fault p steps = ⊥

-- each fault of the run and its cause, in the order of what is read, found and written
abbrev pub ConflictCause : Fault → Device → Device → ℕ → ℕ → Option (ℤ → List ℕ) → Type 0
ConflictCause fault reader writer period steps naming =
    InstanceCause fault reader period
    ⊎ ((p : Pesp) × ReadsInstance reader.old reader.new period p
    × (FindingCause fault p steps
    ⊎ OutCause fault (HasFailed writer × ((rows : List ℕ) × WritesList p naming rows (GetsFront writer)))))
