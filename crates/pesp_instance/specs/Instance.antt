-- Which instance a text is with a period.
use Rattle.std.specs.Prelude.{ℕ, ◌&&◌, nat_le, List, [], length, map, Result, Ok, Err, if◌then◌else◌}
use Rattle.pesp_problem.specs.declared.limits.TheConstants.{MOST_PERIOD}
use Rattle.pesp_problem.specs.Timetables.{Pesp}
use Rattle.pesp_instance.specs.Activities.{activities_after, and_then, events_of, row_of}
use Rattle.pesp_instance.specs.Records.{records_of}
use Rattle.pesp_instance.specs.declared.activity.Activity.{Activity}
use Rattle.pesp_instance.specs.declared.refusal.ReadRefusal.{ReadRefusal}
use Rattle.pesp_instance.specs.declared.refusal.ReadRefusal.TheVariants.{Period, TextTooLong}

-- the instance of activities: their events, and a row for each
abbrev pub pesp_of : ℕ → List Activity → Pesp
pesp_of period activities = record { period = period; events = events_of activities; rows = map (row_of (events_of activities)) activities }

-- the instance of a text, or its first fault
abbrev pub instance_of : List ℕ → ℕ → Result Pesp ReadRefusal
instance_of text period =
    if nat_le 1 period && nat_le period MOST_PERIOD
    then if nat_le (length text) 16777216
    then and_then (activities_after [] (records_of text)) (λ activities. Ok (pesp_of period activities))
    else Err TextTooLong
    else Err Period
