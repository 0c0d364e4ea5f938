-- What the run that tells violated activities reads and writes, and when it tells which fault.
use Rattle.std.specs.Prelude.{◌≡◌, ℕ, ℤ, List, Option, length}
use Rattle.pesp_problem.specs.Timetables.{Pesp, AreTimes}
use Rattle.pesp_report.specs.Violations.{violations_of, violations_text}
use Rattle.pesp_check.specs.Devices.{Device}
use Rattle.pesp_runs.specs.Reading.{ReadsTimes, OverBase}
use Rattle.pesp_runs.specs.Causes.{TimesCause, OutCause}
use Rattle.pesp_runs.specs.Runs.{OverBaseCause}
use Rattle.pesp_runs.specs.declared.fault.Fault.{Fault}

-- the bytes that were read give the instance these times, one below the period for each event
abbrev pub GivesTimes : Option (List ℕ) → Option (List ℕ) → Pesp → List ℕ → Type 0
GivesTimes told left p times = ReadsTimes told left p times × AreTimes p times

-- the first text has an instance and the second one gives such times, of which this is said
abbrev pub ReadsForEvents : Option (List ℕ) → Option (List ℕ) → Option (List ℕ) → Option (List ℕ) → ℕ → (Pesp → List ℕ → Type 0) → Type 0
ReadsForEvents told left told_times left_times period Holds = OverBase GivesTimes told left told_times left_times period Holds

-- so many rows are violated, and the writer got what the relation says of their records, with what events are called where
-- names are told
abbrev pub WritesViolations : Pesp → List ℕ → Option (ℤ → List ℕ) → ℕ → (List ℕ → Type 0) → Type 0
WritesViolations p times naming count Gets =
    (count ≡ length (violations_of p times)) × Gets (violations_text naming (violations_of p times))

-- each fault of the run and its cause
abbrev pub ViolationsCause : Fault → Device → Device → Device → ℕ → Type 0 → Option (ℤ → List ℕ) → Type 0
ViolationsCause fault reader times_reader writer period uncalled naming =
    OverBaseCause ReadsTimes TimesCause fault reader times_reader writer period uncalled
    (λ p times fault cut. OutCause fault (AreTimes p times × cut))
    (λ p times Gets. Gets (violations_text naming (violations_of p times)))
