-- When runs tell which fault. What memory is refused is the runtime's matter, so nothing is said of `Memory`.
use Rattle.std.specs.Prelude.{◌≡◌, ◌⊎◌, ℕ, List, Err, None}
use Rattle.pesp_problem.specs.Timetables.{Pesp}
use Rattle.pesp_problem.specs.Scores.{IsFirstViolated}
use Rattle.pesp_truth.specs.Certificates.{Content}
use Rattle.pesp_cert_lines.specs.declared.versions.Versions.TheVariants.{Plain}
use Rattle.pesp_cert.specs.Refusals.{items_of_text}
use Rattle.pesp_judges.specs.Faults.{IsVerdict}
use Rattle.pesp_judges.specs.declared.refusal.Verdict.TheVariants.{Refused}
use Rattle.pesp_search.specs.Refusals.{MeetsLimit}
use Rattle.pesp_search.specs.Solving.{IsSearchRefusal}
use Rattle.pesp_search.specs.declared.refusal.SolveRefusal.TheVariants.{Memory as SearchMemory}
use Rattle.pesp_report.specs.TimesText.{times_from_text}
use Rattle.pesp_report.specs.declared.refusal.ReportRefusal.TheVariants.{Violates}
use Rattle.pesp_check.specs.Devices.{Device, HasFailed}
use Rattle.pesp_runs.specs.Reading.{ReadsNext, ReadsTimes, ReadsCertificate, RefusesInstance}
use Rattle.pesp_runs.specs.declared.fault.Fault.{Fault}
use Rattle.pesp_runs.specs.declared.fault.Fault.TheVariants.{Instance, Certificate, Times, Search, Report, Base, Memory, Read, Write}

-- why there is no instance: its text, or the reader's device
abbrev pub InstanceCause : Fault → Device → ℕ → Type 0
InstanceCause (Instance refusal) reader period = RefusesInstance reader.old reader.new period refusal
InstanceCause Memory reader period = Unit {0}
InstanceCause Read reader period = HasFailed reader
InstanceCause fault reader period = ⊥

-- why a text isn't read to its end: the reader's device
abbrev pub TextCause : Fault → Device → Type 0
TextCause Memory reader = Unit {0}
TextCause Read reader = HasFailed reader
TextCause fault reader = ⊥

-- why there are no times: their text, or the reader's device
abbrev pub TimesCause : Fault → Device → Pesp → Type 0
TimesCause (Times refusal) reader p = ReadsNext reader.old reader.new (λ bytes. times_from_text p bytes ≡ Err refusal)
TimesCause Memory reader p = Unit {0}
TimesCause Read reader p = HasFailed reader
TimesCause fault reader p = ⊥

-- why times are no timetable: the first row that they leave unsatisfied
abbrev pub RowCause : Fault → Pesp → List ℕ → Type 0
RowCause (Report (Violates row)) p times = IsFirstViolated p times row
RowCause fault p times = ⊥

-- why there is no timetable: there are no times, or these are none
abbrev pub TimetableCause : Fault → Device → Pesp → Type 0
TimetableCause fault reader p =
    TimesCause fault reader p ⊎ ((times : List ℕ) × ReadsTimes reader.old reader.new p times × RowCause fault p times)

-- why there is no base: its text, its verdict, or the reader's device
abbrev pub BaseCause : Fault → Device → Pesp → Type 0
BaseCause (Certificate refusal) reader p = ReadsNext reader.old reader.new (λ bytes. items_of_text Plain bytes ≡ Err refusal)
BaseCause (Base refusal) reader p =
    (base : Content) × ReadsCertificate reader.old reader.new base × IsVerdict None p base (Refused refusal)
BaseCause Memory reader p = Unit {0}
BaseCause Read reader p = HasFailed reader
BaseCause fault reader p = ⊥

-- why nothing was found: a limit that the search passes, or memory, which is told as such
abbrev pub SearchCause : Fault → Pesp → ℕ → Type 0
SearchCause (Search SearchMemory) p steps = ⊥
SearchCause (Search refusal) p steps = IsSearchRefusal p steps refusal
SearchCause Memory p steps = Unit {0}
SearchCause fault p steps = ⊥

-- the limit that the search met
abbrev pub LimitCause : Fault → Pesp → ℕ → Type 0
LimitCause (Search refusal) p steps = MeetsLimit p steps refusal
LimitCause fault p steps = Unit {0}

-- why nothing went out whole, once all was read: memory, or a writer of which this is said
abbrev pub OutCause : Fault → Type 0 → Type 0
OutCause Memory cut = Unit {0}
OutCause Write cut = cut
OutCause fault cut = ⊥

-- why no solution went out: what the search passes within so many steps, or a writer of which this is said
abbrev pub SolutionStops : Fault → Pesp → ℕ → Type 0 → Type 0
SolutionStops fault p steps cut = (SearchCause fault p steps × LimitCause fault p steps) ⊎ OutCause fault cut
