-- What the runs that write something of a timetable read and write, and when they tell which fault.
use Rattle.std.specs.Prelude.{◌⊎◌, ℕ, List}
use Rattle.pesp_problem.specs.Timetables.{Pesp, IsTimetable}
use Rattle.pesp_check.specs.Devices.{Device}
use Rattle.pesp_runs.specs.Reading.{ReadsTimes}
use Rattle.pesp_runs.specs.Causes.{TimesCause, RowCause, OutCause}
use Rattle.pesp_runs.specs.Runs.{OverBaseCause}
use Rattle.pesp_runs.specs.declared.fault.Fault.{Fault}

-- the writer got what the relation says of a text of which this is shown
abbrev pub WritesSheet : (List ℕ → Type 0) → (List ℕ → Type 0) → Type 0
WritesSheet Shows Gets = (text : List ℕ) × Shows text × Gets text

-- each fault and its cause, in the order of what is read and written
abbrev pub SheetCause : Fault → Device → Device → Device → ℕ → Type 0 → (Pesp → List ℕ → List ℕ → Type 0) → Type 0
SheetCause fault reader times_reader writer period uncalled Shows =
    OverBaseCause ReadsTimes TimesCause fault reader times_reader writer period uncalled
    (λ p times fault cut. RowCause fault p times ⊎ OutCause fault (IsTimetable p times × cut))
    (λ p times Gets. WritesSheet (Shows p times) Gets)
