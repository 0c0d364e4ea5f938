-- What the program reads, writes and tells, and what its status says.
use Rattle.std.specs.Prelude.{◌≡◌, ◌≢◌, ◌⊎◌, ℕ, ◌≤◌}
use Rattle.pesp_problem.specs.declared.limits.TheConstants.{MOST_PERIOD}
use Rattle.pesp_cert_lines.specs.declared.versions.Versions.{Versions}
use Rattle.pesp_judges.specs.declared.refusal.Verdict.{Verdict}
use Rattle.pesp_check.specs.Devices.{Device}
use Rattle.pesp_check.specs.Checking.{Checks, CheckCause}
use Rattle.pesp_check.specs.Verdicts.{verdict_status}
use Rattle.pesp_check.specs.FaultLines.{verdict_fault_line, verdict_exit_status}
use Rattle.pesp_check.specs.declared.fault.VerdictFault.{VerdictFault}
use Rattle.pesp_check.specs.declared.fault.VerdictFault.TheVariants.{Memory, Write, NoFile}
use Rattle.pesp_check.specs.Lines.{Gets, GetsLine}

-- some text is an instance with this period, the text that was read is that of a certificate whose version is taken, and the
-- verdict on it is written; the status is the verdict's
abbrev pub GivesVerdict : Versions → ℕ → Device → Device → ℕ → Type 0
GivesVerdict versions period reader writer status =
    (instance : Device) × (verdict : Verdict)
    × Checks versions instance.old instance.new reader.old reader.new period verdict (Gets writer)
    × (status ≡ verdict_status verdict)

-- why there is no verdict: there is no such file, or what `check` tells over the text of some file; `uncalled` says that
-- the reader was not called
abbrev pub NoVerdictCause : Versions → VerdictFault → ℕ → Device → Device → Type 0 → Type 0
NoVerdictCause versions fault period reader writer uncalled =
    ((fault ≡ NoFile) × uncalled) ⊎ ((instance : Device) × CheckCause versions fault instance reader writer period uncalled)

-- a fault is told, or that its line found no memory; the status is that of what is told
abbrev pub TellsFault : VerdictFault → Device → ℕ → Type 0
TellsFault fault teller status =
    (GetsLine teller (verdict_fault_line fault) × (status ≡ verdict_exit_status fault))
    ⊎ (GetsLine teller (verdict_fault_line Memory) × (status ≡ verdict_exit_status Memory))

-- a fault with its cause is told; the writer was called only where it failed
pub record StopsChecker (versions : Versions) (period : ℕ) (reader writer teller : Device) (uncalled silent : Type 0) (status : ℕ) : Type 0 where
  pub fault : VerdictFault
  pub cause : NoVerdictCause versions fault period reader writer uncalled
  pub unwritten : fault ≢ Write → silent
  pub told : TellsFault fault teller status

-- a verdict, or a fault
abbrev pub AnswersRequest : Versions → ℕ → Device → Device → Device → Type 0 → Type 0 → ℕ → Type 0
AnswersRequest versions period reader writer teller uncalled silent status =
    GivesVerdict versions period reader writer status ⊎ StopsChecker versions period reader writer teller uncalled silent status

-- with some period within the limit; or status 2, and nothing is read or written
abbrev pub AnswersChecker : Versions → Device → Device → Device → Type 0 → Type 0 → ℕ → Type 0
AnswersChecker versions reader writer teller uncalled silent status =
    ((period : ℕ) × (1 ≤ period) × (period ≤ MOST_PERIOD) × AnswersRequest versions period reader writer teller uncalled silent status)
    ⊎ ((status ≡ 2) × uncalled × silent)
