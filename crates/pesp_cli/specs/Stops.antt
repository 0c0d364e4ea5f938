-- Why the program stops without an answer.
use Rattle.std.specs.Prelude.{◌≡◌, ◌⊎◌, ⊤, ℕ, ℤ, List, Option, Some, None, IsSome}
use Rattle.pesp_report.specs.Report.{IsReport}
use Rattle.pesp_report.specs.Named.{IsNamedReport}
use Rattle.pesp_timetable.specs.Texts.{IsTimetableText}
use Rattle.pesp_problem.specs.Timetables.{Pesp}
use Rattle.pesp_truth.specs.Certificates.{Content}
use Rattle.pesp_cert.specs.Fronted.{Fronted}
use Rattle.pesp_check.specs.Devices.{Device}
use Rattle.pesp_cert_lines.specs.declared.versions.Versions.TheVariants.{Plain, All}
use Rattle.pesp_check.specs.Checking.{CheckCause}
use Rattle.pesp_check.specs.declared.fault.VerdictFault.{VerdictFault}
use Rattle.pesp_plan.specs.Planning.{WritesPlan, KeepsSome}
use Rattle.pesp_old_times.specs.Beginning.{ReadsOld, OldCause, FromStandingCause}
use Rattle.pesp_runs.specs.Reading.{ReadsBase, GivesTimetable}
use Rattle.pesp_runs.specs.Causes.{BaseCause, TimetableCause, OutCause, SolutionStops}
use Rattle.pesp_runs.specs.FaultLines.{verdict_fault}
use Rattle.pesp_runs.specs.declared.fault.Fault.{Fault}
use Rattle.pesp_runs.specs.declared.fault.Fault.TheVariants.{NoFile}
use Rattle.pesp_runs.specs.Bases.{ReadsSharpBase, SharpBaseCause}
use Rattle.pesp_runs.specs.Runs.{AloneCause, OverBaseCause, OverWorksCause}
use Rattle.pesp_tasks.specs.Gaps.{gap_line, gap_json}
use Rattle.pesp_tasks.specs.Solving.{WritesSolution}
use Rattle.pesp_tasks.specs.Resuming.{WritesGoneOn}
use Rattle.pesp_tasks.specs.Outside.{WritesJobs, WritesWorks, JobCause, GraftCause}
use Rattle.pesp_tasks.specs.SharpSolving.{WritesSharpSolution, WritesSharpResumed}
use Rattle.pesp_tasks.specs.SharpOutside.{WritesSharpJobs, WritesSharpWork, SharpJobCause, WritesSharpGraft}
use Rattle.pesp_report_run.specs.Naming.{NamesCause}
use Rattle.pesp_report_run.specs.Reporting.{SheetCause}
use Rattle.pesp_report_run.specs.Violating.{ViolationsCause}
use Rattle.pesp_report_run.specs.Fixing.{FixCause}
use Rattle.pesp_report_run.specs.Runs.{ConflictCause}
use Rattle.pesp_request.specs.declared.request.OfInstance.{OfInstance}
use Rattle.pesp_request.specs.declared.request.OfInstance.TheVariants.{Solve, SolveSharp, Plan, Conflict}
use Rattle.pesp_request.specs.declared.request.OfCertificate.{OfCertificate}
use Rattle.pesp_request.specs.declared.request.OfCertificate.TheVariants.{Check, CheckSharp, Gap, GapJson, Resume, ResumeSharp, Split, SplitSharp}
use Rattle.pesp_request.specs.declared.request.OfTimes.{OfTimes}
use Rattle.pesp_request.specs.declared.request.OfTimes.TheVariants.{Report, Violations, Picture, Diagrams, Timetable, Fix, Page}
use Rattle.pesp_request.specs.declared.request.OfLeaves.{OfLeaves}
use Rattle.pesp_request.specs.declared.request.OfLeaves.TheVariants.{Work, WorkSharp}
use Rattle.pesp_request.specs.declared.request.OfWorks.{OfWorks}
use Rattle.pesp_request.specs.declared.request.OfWorks.TheVariants.{Graft, GraftSharp}
use Rattle.pesp_request.specs.declared.request.Asked.{Asked}
use Rattle.pesp_request.specs.declared.request.Asked.TheVariants.{Instance, Certificate, Leaves, Times, Works}
use Rattle.pesp_request.specs.declared.request.Request.{Request}

-- a file that is named can't be opened, or this is so
abbrev pub OrNoFile : Fault → Type 0 → Type 0
OrNoFile fault Cause = (fault ≡ NoFile) ⊎ Cause

-- names can't be read from some file, or this is so
abbrev pub OrNoNames : Fault → Type 0 → Type 0
OrNoNames fault Cause = OrNoFile fault (((names : Device) × NamesCause fault names) ⊎ Cause)

-- this is so, or names can't be read where a file with some is named
abbrev pub OrNamesOf : {A : Type 0} → Option A → Fault → Type 0 → Type 0
OrNamesOf None fault Cause = Cause
OrNamesOf (Some file) fault Cause = OrNoNames fault Cause

-- a search that writes this and stops for that, from times that are read and refused so in a file where one is named
abbrev pub StopsSearch : {A : Type 0} → (Option (List ℕ) → Option (List ℕ) → Pesp → List ℕ → Type 0) → (Fault → Device → Pesp → Type 0)
    → (Pesp → List ℕ → Fault → Type 0 → Type 0) → (Pesp → List ℕ → (List ℕ → Type 0) → Type 0)
    → Option A → Fault → ℕ → Device → Device → Type 0
StopsSearch Reads Refused StopsProgram Writes None fault period reader writer = AloneCause StopsProgram Writes fault reader writer period
StopsSearch Reads Refused StopsProgram Writes (Some file) fault period reader writer =
    OrNoFile fault ((times : Device) × OverBaseCause Reads Refused fault reader times writer period ⊤ StopsProgram Writes)

-- a task with a certificate without a front, which writes this; `uncalled` says that its reader was not called
abbrev pub StopsPlain : Fault → ℕ → Device → Device → Device → Type 0 → (Pesp → Content → (List ℕ → Type 0) → Type 0) → Type 0
StopsPlain fault period instance reader writer uncalled Writes =
    OverBaseCause ReadsBase BaseCause fault instance reader writer period uncalled (λ p base fault cut. OutCause fault cut) Writes

-- the same with one that may have a front
abbrev pub StopsSharp : Fault → ℕ → Device → Device → Device → Type 0 → (Pesp → Fronted → (List ℕ → Type 0) → Type 0) → Type 0
StopsSharp fault period instance reader writer uncalled Writes =
    OverBaseCause ReadsSharpBase SharpBaseCause fault instance reader writer period uncalled
    (λ p base fault cut. OutCause fault cut) Writes

-- a conflict, with what events are called where a file is named
abbrev pub StopsConflict : {A : Type 0} → Option A → Fault → ℕ → ℕ → Device → Device → Type 0
StopsConflict None fault steps period reader writer = ConflictCause fault reader writer period steps None
StopsConflict (Some file) fault steps period reader writer =
    OrNoNames fault ((name : ℤ → List ℕ) × ConflictCause fault reader writer period steps (Some name))

-- a plan that is kept in a file, which can't be had, or can't be written
abbrev pub StopsKept : {A : Type 0} → Option A → Fault → ℕ → Device → Device → Type 0
StopsKept from fault period reader writer =
    OrNoFile fault (StopsSearch ReadsOld OldCause (λ p times fault cut. SolutionStops fault p 0 ⊤) KeepsSome from fault period reader writer
    ⊎ ((base : Device) × FromStandingCause (λ p base. OutCause fault ⊤) (λ p times. SolutionStops fault p 0 ⊤)
    fault reader base period))

-- a plan
abbrev pub StopsPlan : {A B : Type 0} → Option A → Option B → Fault → ℕ → Device → Device → Type 0
StopsPlan None from fault period reader writer =
    StopsSearch ReadsOld OldCause (λ p times fault cut. SolutionStops fault p 0 cut) WritesPlan from fault period reader writer
StopsPlan (Some file) from fault period reader writer = StopsKept from fault period reader writer

-- what is asked of an instance
abbrev pub StopsInstance : OfInstance → Fault → ℕ → Device → Device → Type 0
StopsInstance (Solve steps from progress) fault period reader writer =
    StopsSearch GivesTimetable TimetableCause (λ p times fault cut. SolutionStops fault p steps cut) (λ p times Gets. WritesSolution p times steps Gets)
    from fault period reader writer
StopsInstance (SolveSharp steps from progress) fault period reader writer =
    StopsSearch GivesTimetable TimetableCause (λ p times fault cut. SolutionStops fault p 0 cut) (λ p times Gets. WritesSharpSolution p times steps Gets)
    from fault period reader writer
StopsInstance (Plan asked) fault period reader writer = StopsPlan asked.output asked.from fault period reader writer
StopsInstance (Conflict steps names) fault period reader writer = StopsConflict names fault steps period reader writer

-- what is asked of a certificate; `uncalled` says that its reader was not called
abbrev pub StopsCertificate : OfCertificate → Fault → ℕ → Device → Device → Device → Type 0 → Type 0
StopsCertificate Check fault period instance reader writer uncalled =
    (found : VerdictFault) × (fault ≡ verdict_fault found) × CheckCause Plain found instance reader writer period uncalled
StopsCertificate CheckSharp fault period instance reader writer uncalled =
    (found : VerdictFault) × (fault ≡ verdict_fault found) × CheckCause All found instance reader writer period uncalled
StopsCertificate Gap fault period instance reader writer uncalled =
    StopsSharp fault period instance reader writer uncalled (λ p base Gets. Gets (gap_line base))
StopsCertificate GapJson fault period instance reader writer uncalled =
    StopsSharp fault period instance reader writer uncalled (λ p base Gets. Gets (gap_json base))
StopsCertificate (Resume steps seconds progress) fault period instance reader writer uncalled =
    StopsSharp fault period instance reader writer uncalled (λ p base Gets. WritesGoneOn p base steps (IsSome seconds) Gets)
StopsCertificate (ResumeSharp steps seconds progress share) fault period instance reader writer uncalled =
    StopsSharp fault period instance reader writer uncalled (λ p base Gets. WritesSharpResumed p base steps Gets)
StopsCertificate Split fault period instance reader writer uncalled =
    StopsPlain fault period instance reader writer uncalled (λ p base Gets. WritesJobs p base Gets)
StopsCertificate SplitSharp fault period instance reader writer uncalled =
    StopsSharp fault period instance reader writer uncalled (λ p base Gets. WritesSharpJobs p base Gets)

-- what is asked of open leaves
abbrev pub StopsLeaves : OfLeaves → Fault → ℕ → Device → Device → Device → Type 0 → Type 0
StopsLeaves (Work steps until jobs) fault period instance reader writer uncalled =
    OverBaseCause ReadsBase BaseCause fault instance reader writer period uncalled
    (λ p base fault cut. JobCause fault p base jobs.items ⊎ OutCause fault cut)
    (λ p base Gets. WritesWorks p base jobs.items steps until Gets)
StopsLeaves (WorkSharp steps until jobs) fault period instance reader writer uncalled =
    OverBaseCause ReadsSharpBase SharpBaseCause fault instance reader writer period uncalled
    (λ p base fault cut. SharpJobCause fault p base jobs.items ⊎ OutCause fault cut)
    (λ p base Gets. WritesSharpWork p base jobs.items steps until Gets)

-- a report, with what events are called where a file is named
abbrev pub StopsReport : {A : Type 0} → Option A → Fault → ℕ → Device → Device → Device → Type 0 → Type 0
StopsReport None fault period instance reader writer uncalled = SheetCause fault instance reader writer period uncalled IsReport
StopsReport (Some file) fault period instance reader writer uncalled =
    OrNoNames fault ((name : ℤ → List ℕ)
    × SheetCause fault instance reader writer period uncalled (λ p times text. IsNamedReport p times name text))

-- a list of violated activities, with what events are called where a file is named
abbrev pub StopsViolations : {A : Type 0} → Option A → Fault → ℕ → Device → Device → Device → Type 0 → Type 0
StopsViolations None fault period instance reader writer uncalled =
    ViolationsCause fault instance reader writer period uncalled None
StopsViolations (Some file) fault period instance reader writer uncalled =
    OrNoNames fault ((name : ℤ → List ℕ) × ViolationsCause fault instance reader writer period uncalled (Some name))

-- what is asked of times
abbrev pub StopsTimes : OfTimes → Fault → ℕ → Device → Device → Device → Type 0 → Type 0
StopsTimes (Report names) fault period instance reader writer uncalled = StopsReport names fault period instance reader writer uncalled
StopsTimes (Violations names) fault period instance reader writer uncalled = StopsViolations names fault period instance reader writer uncalled
StopsTimes (Picture rows names) fault period instance reader writer uncalled =
    OrNamesOf names fault (SheetCause fault instance reader writer period uncalled (λ p times text. ⊤))
StopsTimes (Diagrams names along) fault period instance reader writer uncalled =
    OrNoNames fault (SheetCause fault instance reader writer period uncalled (λ p times text. ⊤))
StopsTimes (Timetable names json) fault period instance reader writer uncalled =
    OrNamesOf names fault (SheetCause fault instance reader writer period uncalled (IsTimetableText json))
StopsTimes (Fix names events lines) fault period instance reader writer uncalled =
    OrNamesOf names fault (FixCause fault instance reader writer period uncalled)
StopsTimes (Page names) fault period instance reader writer uncalled =
    OrNamesOf names fault (SheetCause fault instance reader writer period uncalled (λ p times text. ⊤))

-- what is asked of works; `base_uncalled` says that the base's reader was not called
abbrev pub StopsWorks : OfWorks → Fault → ℕ → Device → Device → Device → Device → Device → Type 0 → Type 0 → Type 0
StopsWorks Graft fault period instance base reader writer teller base_uncalled uncalled =
    GraftCause fault instance base reader writer teller period base_uncalled uncalled
StopsWorks GraftSharp fault period instance base reader writer teller base_uncalled uncalled =
    OverWorksCause ReadsSharpBase SharpBaseCause fault instance base reader writer teller period base_uncalled uncalled
    (λ p base works fault cut. OutCause fault cut) (λ p base works Gets Tells. WritesSharpGraft p base works Gets Tells)

-- what is asked, from the reader of standard input; `uncalled` says that it was not called
abbrev pub StopsAsked : Asked → Fault → ℕ → Device → Device → Device → Type 0 → Type 0
StopsAsked (Instance None asked) fault period reader writer teller uncalled = StopsInstance asked fault period reader writer
StopsAsked (Instance (Some file) asked) fault period reader writer teller uncalled =
    OrNoFile fault ((instance : Device) × StopsInstance asked fault period instance writer)
StopsAsked (Certificate file asked) fault period reader writer teller uncalled =
    OrNoFile fault ((instance : Device) × StopsCertificate asked fault period instance reader writer uncalled)
StopsAsked (Leaves file asked) fault period reader writer teller uncalled =
    OrNoFile fault ((instance : Device) × StopsLeaves asked fault period instance reader writer uncalled)
StopsAsked (Times file asked) fault period reader writer teller uncalled =
    OrNoFile fault ((instance : Device) × StopsTimes asked fault period instance reader writer uncalled)
StopsAsked (Works file base asked) fault period reader writer teller uncalled =
    OrNoFile fault ((instance base : Device) × StopsWorks asked fault period instance base reader writer teller ⊤ uncalled)

-- why the program stops for a request without an answer
abbrev pub StopsProgram : Request → Fault → Device → Device → Device → Type 0 → Type 0
StopsProgram request fault reader writer teller uncalled =
    StopsAsked request.asked fault request.period reader writer teller uncalled
