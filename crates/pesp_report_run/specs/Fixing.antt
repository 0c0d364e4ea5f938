-- What the run that fixes events reads and writes, and when it tells which fault.
use Rattle.std.specs.Prelude.{ℕ, List, [], Option, Some, None}
use Rattle.pesp_problem.specs.Timetables.{Pesp}
use Rattle.pesp_report_run.specs.Fixed.{IsText}
use Rattle.pesp_fixed.specs.declared.fix_refusal.FixRefusal.{FixRefusal}
use Rattle.pesp_check.specs.Devices.{Device}
use Rattle.pesp_runs.specs.Reading.{ReadsTimes}
use Rattle.pesp_runs.specs.Causes.{TimesCause, OutCause}
use Rattle.pesp_runs.specs.Runs.{OverBaseCause}
use Rattle.pesp_runs.specs.declared.fault.Fault.{Fault}
use Rattle.pesp_report_run.specs.Reporting.{WritesSheet}

-- the writer got what the relation says of the text of the instance with activities in front that hold events; where what is
-- wanted can't be had, of no bytes
abbrev pub WritesFixed : Pesp → Option FixRefusal → (List ℕ → Type 0) → Type 0
WritesFixed p None Gets = WritesSheet (IsText p) Gets
WritesFixed p (Some refusal) Gets = Gets []

-- each fault of the run and its cause
abbrev pub FixCause : Fault → Device → Device → Device → ℕ → Type 0 → Type 0
FixCause fault reader times_reader writer period uncalled =
    OverBaseCause ReadsTimes TimesCause fault reader times_reader writer period uncalled (λ p times fault cut. OutCause fault cut)
    (λ p times Gets. WritesSheet (IsText p) Gets)
