-- What the program reads and writes for a request, and its exit status.
use Rattle.std.specs.Prelude.{◌≡◌, ◌⊎◌, ℕ, ℤ, List, zero, suc, Option, Some, None, IsSome, ⊤}
use Rattle.pesp_problem.specs.Timetables.{Pesp}
use Rattle.pesp_report.specs.Report.{IsReport}
use Rattle.pesp_report.specs.Named.{IsNamedReport}
use Rattle.pesp_fixed.specs.declared.fix_refusal.FixRefusal.{FixRefusal}
use Rattle.pesp_timetable.specs.Texts.{IsTimetableText}
use Rattle.pesp_judges.specs.declared.refusal.Verdict.{Verdict}
use Rattle.pesp_cert_lines.specs.declared.versions.Versions.TheVariants.{Plain, All}
use Rattle.pesp_check.specs.Checking.{Checks}
use Rattle.pesp_plan.specs.Planning.{WritesPlan, KeepsSome, KeepsSomeOn}
use Rattle.pesp_old_times.specs.Beginning.{ReadsOld, FromStanding}
use Rattle.pesp_check.specs.Devices.{Device}
use Rattle.pesp_check.specs.Verdicts.{verdict_status}
use Rattle.pesp_runs.specs.Reading.{HasBase, ReadsBase, ReadsTimetable, GivesTimetable}
use Rattle.pesp_runs.specs.FaultLines.{fault_line, exit_status}
use Rattle.pesp_runs.specs.declared.fault.Fault.{Fault}
use Rattle.pesp_runs.specs.declared.fault.Fault.TheVariants.{Memory}
use Rattle.pesp_runs.specs.Bases.{ReadsSharpBase}
use Rattle.pesp_runs.specs.Runs.{Alone, OverBase, OverWorks}
use Rattle.pesp_tasks.specs.Gaps.{gap_line, gap_json}
use Rattle.pesp_tasks.specs.Solving.{WritesSolution}
use Rattle.pesp_tasks.specs.Resuming.{WritesGoneOn}
use Rattle.pesp_tasks.specs.Outside.{WritesJobs, WritesWorks, Grafts}
use Rattle.pesp_tasks.specs.SharpSolving.{WritesSharpSolution, ResumesSharp}
use Rattle.pesp_tasks.specs.SharpOutside.{WritesSharpJobs, WritesSharpWork, WritesSharpGraft}
use Rattle.pesp_report_run.specs.Reporting.{WritesSheet}
use Rattle.pesp_report_run.specs.Violating.{ReadsForEvents, WritesViolations}
use Rattle.pesp_report_run.specs.Fixing.{WritesFixed}
use Rattle.pesp_report_run.specs.Runs.{TellsConflict}
use Rattle.pesp_report_run.specs.Told.{told_text, told_status}
use Rattle.pesp_report_run.specs.declared.told.Told.{Told}
use Rattle.pesp_check.specs.Lines.{Gets, GetsLine}
use Rattle.pesp_request.specs.declared.request.OfInstance.{OfInstance}
use Rattle.pesp_request.specs.declared.request.OfInstance.TheVariants.{Solve, SolveSharp, Plan, Conflict}
use Rattle.pesp_request.specs.declared.request.OfCertificate.{OfCertificate}
use Rattle.pesp_request.specs.declared.request.OfCertificate.TheVariants.{Check, CheckSharp, Gap, GapJson, Resume, ResumeSharp, Split, SplitSharp}
use Rattle.pesp_request.specs.declared.request.OfTimes.{OfTimes}
use Rattle.pesp_request.specs.declared.request.OfTimes.TheVariants.{Report, Violations, Picture, Diagrams, Timetable, Fix, Page}
use Rattle.pesp_request.specs.declared.request.OfLeaves.{OfLeaves}
use Rattle.pesp_request.specs.declared.request.OfLeaves.TheVariants.{Work, WorkSharp}
use Rattle.pesp_request.specs.declared.request.OfWorks.{OfWorks}
use Rattle.pesp_request.specs.declared.request.OfWorks.TheVariants.{Graft, GraftSharp}
use Rattle.pesp_request.specs.declared.request.Asked.{Asked}
use Rattle.pesp_request.specs.declared.request.Asked.TheVariants.{Instance, Certificate, Leaves, Times, Works}
use Rattle.pesp_request.specs.declared.request.Request.{Request}

-- a fault is told, or that its line found no memory; the status is that of what is told
abbrev pub TellsFault : Device → Fault → ℕ → Type 0
TellsFault teller fault status =
    (GetsLine teller (fault_line fault) × (status ≡ exit_status fault))
    ⊎ (GetsLine teller (fault_line Memory) × (status ≡ exit_status Memory))

-- ---- requests

-- what the program does for a search that writes this, from times that are read so from a file where one is named, which are some
-- text
abbrev pub AnswersSearch : {A : Type 0} → (Option (List ℕ) → Option (List ℕ) → Pesp → List ℕ → Type 0)
    → (Pesp → List ℕ → (List ℕ → Type 0) → Type 0) → Option A → ℕ → Device → Device → ℕ → Type 0
AnswersSearch Reads Writes None period reader writer status = Alone Writes reader.old reader.new period (Gets writer) × (status ≡ 0)
AnswersSearch Reads Writes (Some file) period reader writer status =
    ((times : Device) × OverBase Reads reader.old reader.new times.old times.new period (λ p times. Writes p times (Gets writer))) × (status ≡ 0)

-- what it does for a conflict, with what events are called where a file is named
abbrev pub AnswersConflict : {A : Type 0} → Option A → ℕ → ℕ → Device → Device → Device → Type 0 → ℕ → Type 0
AnswersConflict None steps period reader writer teller silent status =
    (told : Told) × TellsConflict reader.old reader.new period steps None told (Gets writer) silent
    × GetsLine teller (told_text told) × (status ≡ told_status told)
AnswersConflict (Some file) steps period reader writer teller silent status =
    (name : ℤ → List ℕ) × (told : Told) × TellsConflict reader.old reader.new period steps (Some name) told (Gets writer) silent
    × GetsLine teller (told_text told) × (status ≡ told_status told)

-- what it does for a plan that is kept in a file: from what stands there, which is some text; or from old times in a file where
-- one is named
abbrev pub AnswersKept : {A : Type 0} → Option A → ℕ → Device → Device → ℕ → Type 0
AnswersKept from period reader writer status =
    AnswersSearch ReadsOld KeepsSome from period reader writer status
    ⊎ (((base : Device) × FromStanding (λ p base. KeepsSomeOn base (Gets writer)) (λ p times. KeepsSome p times (Gets writer))
    reader.old reader.new base.old base.new period) × (status ≡ 0))

-- what it does for a plan, which is written where no file is named in which it is kept
abbrev pub AnswersPlan : {A B : Type 0} → Option A → Option B → ℕ → Device → Device → ℕ → Type 0
AnswersPlan None from period reader writer status = AnswersSearch ReadsOld WritesPlan from period reader writer status
AnswersPlan (Some file) from period reader writer status = AnswersKept from period reader writer status

-- what the program does for what is asked of an instance, from the reader that has it; `silent` says that the writer was not called
abbrev pub AnswersInstance : OfInstance → ℕ → Device → Device → Device → Type 0 → ℕ → Type 0
AnswersInstance (Solve steps from progress) period reader writer teller silent status =
    AnswersSearch GivesTimetable (λ p times Gets. WritesSolution p times steps Gets) from period reader writer status
AnswersInstance (SolveSharp steps from progress) period reader writer teller silent status =
    AnswersSearch GivesTimetable (λ p times Gets. WritesSharpSolution p times steps Gets) from period reader writer status
AnswersInstance (Plan asked) period reader writer teller silent status =
    AnswersPlan asked.output asked.from period reader writer status
AnswersInstance (Conflict steps names) period reader writer teller silent status =
    AnswersConflict names steps period reader writer teller silent status

-- the same of a certificate, from the readers that have its instance and its text; a search that goes on is stopped
-- only where seconds are counted
abbrev pub AnswersCertificate : OfCertificate → ℕ → Device → Device → Device → ℕ → Type 0
AnswersCertificate Check period instance reader writer status =
    (verdict : Verdict) × Checks Plain instance.old instance.new reader.old reader.new period verdict (Gets writer)
    × (status ≡ verdict_status verdict)
AnswersCertificate CheckSharp period instance reader writer status =
    (verdict : Verdict) × Checks All instance.old instance.new reader.old reader.new period verdict (Gets writer)
    × (status ≡ verdict_status verdict)
AnswersCertificate Gap period instance reader writer status =
    OverBase ReadsSharpBase instance.old instance.new reader.old reader.new period
    (λ p base. Gets writer (gap_line base)) × (status ≡ 0)
AnswersCertificate GapJson period instance reader writer status =
    OverBase ReadsSharpBase instance.old instance.new reader.old reader.new period
    (λ p base. Gets writer (gap_json base)) × (status ≡ 0)
AnswersCertificate (Resume steps seconds progress) period instance reader writer status =
    OverBase ReadsSharpBase instance.old instance.new reader.old reader.new period
    (λ p base. WritesGoneOn p base steps (IsSome seconds) (Gets writer)) × (status ≡ 0)
AnswersCertificate (ResumeSharp steps seconds progress share) period instance reader writer status =
    ResumesSharp instance.old instance.new reader.old reader.new period steps (Gets writer) × (status ≡ 0)
AnswersCertificate Split period instance reader writer status =
    HasBase instance.old instance.new reader.old reader.new period (λ p base. WritesJobs p base (Gets writer)) × (status ≡ 0)
AnswersCertificate SplitSharp period instance reader writer status =
    OverBase ReadsSharpBase instance.old instance.new reader.old reader.new period (λ p base. WritesSharpJobs p base (Gets writer)) × (status ≡ 0)

-- the same of open leaves of a certificate
abbrev pub AnswersLeaves : OfLeaves → ℕ → Device → Device → Device → ℕ → Type 0
AnswersLeaves (Work steps until jobs) period instance reader writer status =
    HasBase instance.old instance.new reader.old reader.new period
    (λ p base. WritesWorks p base jobs.items steps until (Gets writer)) × (status ≡ 0)
AnswersLeaves (WorkSharp steps until jobs) period instance reader writer status =
    OverBase ReadsSharpBase instance.old instance.new reader.old reader.new period
    (λ p base. WritesSharpWork p base jobs.items steps until (Gets writer)) × (status ≡ 0)

-- what it does for a report, with what events are called where a file is named
abbrev pub AnswersReport : {A : Type 0} → Option A → ℕ → Device → Device → Device → ℕ → Type 0
AnswersReport None period instance reader writer status =
    ReadsTimetable instance.old instance.new reader.old reader.new period
    (λ p times. WritesSheet (IsReport p times) (Gets writer)) × (status ≡ 0)
AnswersReport (Some file) period instance reader writer status =
    ((name : ℤ → List ℕ)
    × ReadsTimetable instance.old instance.new reader.old reader.new period
    (λ p times. WritesSheet (IsNamedReport p times name) (Gets writer)))
    × (status ≡ 0)

-- 1 where any activity is violated
abbrev pub violations_status : ℕ → ℕ
violations_status zero = 0
violations_status (suc n) = 1

-- what it does to list violated activities, with what events are called where a file is named
abbrev pub AnswersViolations : {A : Type 0} → Option A → ℕ → Device → Device → Device → ℕ → Type 0
AnswersViolations None period instance reader writer status =
    (count : ℕ) × ReadsForEvents instance.old instance.new reader.old reader.new period
    (λ p times. WritesViolations p times None count (Gets writer))
    × (status ≡ violations_status count)
AnswersViolations (Some file) period instance reader writer status =
    (name : ℤ → List ℕ) × (count : ℕ) × ReadsForEvents instance.old instance.new reader.old reader.new period
    (λ p times. WritesViolations p times (Some name) count (Gets writer))
    × (status ≡ violations_status count)

-- 2 where what is wanted can't be had
abbrev pub fix_status : Option FixRefusal → ℕ
fix_status None = 0
fix_status (Some refusal) = 2

-- what it does to fix events; nothing is said of what names a file tells
abbrev pub AnswersFix : ℕ → Device → Device → Device → ℕ → Type 0
AnswersFix period instance reader writer status =
    (refused : Option FixRefusal) × ReadsForEvents instance.old instance.new reader.old reader.new period
    (λ p times. WritesFixed p refused (Gets writer))
    × (status ≡ fix_status refused)

-- the same of times; nothing is said of what a picture or a page shows, or of what names a file tells
abbrev pub AnswersTimes : OfTimes → ℕ → Device → Device → Device → ℕ → Type 0
AnswersTimes (Report names) period instance reader writer status = AnswersReport names period instance reader writer status
AnswersTimes (Violations names) period instance reader writer status = AnswersViolations names period instance reader writer status
AnswersTimes (Picture rows names) period instance reader writer status =
    ReadsTimetable instance.old instance.new reader.old reader.new period (λ p times. WritesSheet (λ text. ⊤) (Gets writer)) × (status ≡ 0)
AnswersTimes (Diagrams names along) period instance reader writer status =
    ReadsTimetable instance.old instance.new reader.old reader.new period (λ p times. WritesSheet (λ text. ⊤) (Gets writer)) × (status ≡ 0)
AnswersTimes (Timetable names json) period instance reader writer status =
    ReadsTimetable instance.old instance.new reader.old reader.new period
    (λ p times. WritesSheet (IsTimetableText json p times) (Gets writer)) × (status ≡ 0)
AnswersTimes (Fix names events lines) period instance reader writer status = AnswersFix period instance reader writer status
AnswersTimes (Page names) period instance reader writer status =
    ReadsTimetable instance.old instance.new reader.old reader.new period (λ p times. WritesSheet (λ text. ⊤) (Gets writer)) × (status ≡ 0)

-- the same of works, from the readers that have the instance, the base and the works
abbrev pub AnswersWorks : OfWorks → ℕ → Device → Device → Device → Device → Device → ℕ → Type 0
AnswersWorks Graft period instance base reader writer teller status =
    OverWorks ReadsBase instance.old instance.new base.old base.new reader.old reader.new period
    (λ p base works. Grafts p base works (Gets writer) (Gets teller)) × (status ≡ 0)
AnswersWorks GraftSharp period instance base reader writer teller status =
    OverWorks ReadsSharpBase instance.old instance.new base.old base.new reader.old reader.new period
    (λ p base works. WritesSharpGraft p base works (Gets writer) (Gets teller)) × (status ≡ 0)

-- what the program does for what is asked, from the reader of standard input to the writers of standard output and
-- standard error; what stands in a file that is named is some text
abbrev pub AnswersAsked : Asked → ℕ → Device → Device → Device → Type 0 → ℕ → Type 0
AnswersAsked (Instance None asked) period reader writer teller silent status =
    AnswersInstance asked period reader writer teller silent status
AnswersAsked (Instance (Some file) asked) period reader writer teller silent status =
    (instance : Device) × AnswersInstance asked period instance writer teller silent status
AnswersAsked (Certificate file asked) period reader writer teller silent status =
    (instance : Device) × AnswersCertificate asked period instance reader writer status
AnswersAsked (Leaves file asked) period reader writer teller silent status =
    (instance : Device) × AnswersLeaves asked period instance reader writer status
AnswersAsked (Times file asked) period reader writer teller silent status =
    (instance : Device) × AnswersTimes asked period instance reader writer status
AnswersAsked (Works file base asked) period reader writer teller silent status =
    (instance base : Device) × AnswersWorks asked period instance base reader writer teller status

-- what the program does for a request, and its exit status
abbrev pub Answers : Request → Device → Device → Device → Type 0 → ℕ → Type 0
Answers request reader writer teller silent status =
    AnswersAsked request.asked request.period reader writer teller silent status
