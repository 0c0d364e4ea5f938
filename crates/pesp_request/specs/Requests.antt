-- What holds of what a command line asks for.
use Rattle.std.specs.Prelude.{ℕ, ◌≤◌}
use Rattle.std.specs.List.Sorted.{IsStrictlyIncreasing}
use Rattle.pesp_problem.specs.declared.limits.TheConstants.{MOST_PERIOD, MOST_STEPS}
use Rattle.pesp_runs.specs.declared.seconds.TheConstants.{MOST_SECONDS}
use Rattle.pesp_request.specs.declared.request.OfInstance.{OfInstance}
use Rattle.pesp_request.specs.declared.request.OfInstance.TheVariants.{Solve, SolveSharp, Plan, Conflict}
use Rattle.pesp_request.specs.declared.request.OfCertificate.{OfCertificate}
use Rattle.pesp_request.specs.declared.request.OfCertificate.TheVariants.{Check, CheckSharp, Gap, GapJson, Resume, ResumeSharp, Split, SplitSharp}
use Rattle.pesp_request.specs.declared.request.OfTimes.{OfTimes}
use Rattle.pesp_request.specs.declared.request.OfTimes.TheVariants.{Report, Violations, Picture, Diagrams, Timetable, Fix, Page}
use Rattle.pesp_request.specs.declared.request.OfLeaves.{OfLeaves}
use Rattle.pesp_request.specs.declared.request.OfLeaves.TheVariants.{Work, WorkSharp}
use Rattle.pesp_request.specs.declared.request.Asked.{Asked}
use Rattle.pesp_request.specs.declared.request.Asked.TheVariants.{Instance, Certificate, Leaves, Times, Works}
use Rattle.pesp_request.specs.declared.request.Request.{Request}

-- a period from 1 up to its limit
abbrev pub IsPeriod : ℕ → Type 0
IsPeriod period = (1 ≤ period) × (period ≤ MOST_PERIOD)

-- the numbers are within the limits of the runs
abbrev pub InstanceWithin : OfInstance → Type 0
InstanceWithin (Solve steps from progress) = steps ≤ MOST_STEPS
InstanceWithin (SolveSharp steps from progress) = steps ≤ MOST_STEPS
InstanceWithin (Plan asked) = (1 ≤ asked.seconds) × (asked.seconds ≤ MOST_SECONDS)
InstanceWithin (Conflict steps names) = steps ≤ MOST_STEPS

-- so are those of what is asked of a certificate
abbrev pub CertificateWithin : OfCertificate → Type 0
CertificateWithin Check = Unit {0}
CertificateWithin CheckSharp = Unit {0}
CertificateWithin Gap = Unit {0}
CertificateWithin GapJson = Unit {0}
CertificateWithin (Resume steps seconds progress) = steps ≤ MOST_STEPS
CertificateWithin (ResumeSharp steps seconds progress share) = steps ≤ MOST_STEPS
CertificateWithin Split = Unit {0}
CertificateWithin SplitSharp = Unit {0}

-- the steps of work on open leaves are within their limit, and the numbers of jobs rise
abbrev pub LeavesWithin : OfLeaves → Type 0
LeavesWithin (Work steps until jobs) = (steps ≤ MOST_STEPS) × IsStrictlyIncreasing jobs.items
LeavesWithin (WorkSharp steps until jobs) = (steps ≤ MOST_STEPS) × IsStrictlyIncreasing jobs.items

-- what is asked of times: a picture has from 1 to 1000 rows
abbrev pub TimesWithin : OfTimes → Type 0
TimesWithin (Report names) = Unit {0}
TimesWithin (Violations names) = Unit {0}
TimesWithin (Picture rows names) = (1 ≤ rows) × (rows ≤ 1000)
TimesWithin (Diagrams names along) = Unit {0}
TimesWithin (Timetable names json) = Unit {0}
TimesWithin (Fix names events lines) = Unit {0}
TimesWithin (Page names) = Unit {0}

-- the numbers of what is asked are within their limits, whatever it is asked of
abbrev pub AskedWithin : Asked → Type 0
AskedWithin (Instance file asked) = InstanceWithin asked
AskedWithin (Certificate file asked) = CertificateWithin asked
AskedWithin (Leaves file asked) = LeavesWithin asked
AskedWithin (Times file asked) = TimesWithin asked
AskedWithin (Works file base asked) = Unit {0}

-- the period of a request and what is asked are within their limits
abbrev pub IsWithinLimits : Request → Type 0
IsWithinLimits request = IsPeriod request.period × AskedWithin request.asked
