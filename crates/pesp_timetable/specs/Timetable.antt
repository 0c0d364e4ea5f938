-- A timetable as records, one for each event.
use Rattle.std.specs.Prelude.{ℕ, ◌+◌, ◌*◌, ◌/◌, ◌%◌, ◌==◌, ◌&&◌, ◌||◌, Bool, nat_lt, ℤ, List, [], ◌∷◌, ◌++◌, map, Option, Some, None, slice_get, slice_index_or, string_bytes, codes}
use Rattle.std.specs.List.{enumerate_from}
use Rattle.std.specs.Fmt.{decimal, signed_decimal}
use Rattle.pesp_problem.specs.Timetables.{Pesp}
use Rattle.pesp_railway.specs.Words.{direction_word, halt_word}
use Rattle.pesp_report.specs.Report.{records_text}
use Rattle.pesp_railway.specs.declared.told.Told.{Told}
use Rattle.pesp_timetable.specs.declared.entry.Entry.{Entry}

-- minutes as hours and minutes, of two digits each where there are fewer than 100 hours
abbrev pub clock_text : ℕ → List ℕ
clock_text n =
    decimal (n / 60 / 10) ++ decimal (n / 60 % 10) ++ codes ":" ++ decimal (n % 60 / 10) ++ decimal (n % 60 % 10)

-- ---- what is told of an event beside its time; nothing is said of what it is

-- its way, its place along it, and how many periods have begun since that way's first event
abbrev pub way_of : Option Told → ℕ
way_of None = 0
way_of (Some told) = told.step.way

-- the place of an event along its way, 0 where nothing is told of it
abbrev pub stop_of : Option Told → ℕ
stop_of None = 0
stop_of (Some told) = told.step.stop

-- how many periods have begun since the first event of its way, 0 where nothing is told
abbrev pub laps_of : Option Told → ℕ
laps_of None = 0
laps_of (Some told) = told.step.laps

-- its line, its station, its name and its changes, as bytes
abbrev pub told_line : Option Told → List ℕ
told_line None = []
told_line (Some told) = string_bytes told.line

-- the station of an event, empty where none is told
abbrev pub station_of : Option Told → List ℕ
station_of None = []
station_of (Some told) = string_bytes told.station

-- the name of an event, empty where none is told
abbrev pub told_name : Option Told → List ℕ
told_name None = []
told_name (Some told) = string_bytes told.name

-- the changes at an event, empty where none are told
abbrev pub changes_of : Option Told → List ℕ
changes_of None = []
changes_of (Some told) = string_bytes told.changes

-- the direction of an event's train, empty where none is told
abbrev pub direction_of : Option Told → List ℕ
direction_of None = []
direction_of (Some told) = direction_word told.step.direction

-- what the train of an event does there, empty where nothing is told
abbrev pub told_kind : Option Told → List ℕ
told_kind None = []
told_kind (Some told) = halt_word told.step.halt

-- ---- the records

-- an event with its number, from 0, and its label; the running time is the time behind so many periods
abbrev pub entry_of : Pesp → List ℕ → List Told → ℕ × ℤ → Entry
entry_of p times tolds (event, label) = record {
  event = event;
  label = label;
  way = way_of (slice_get tolds event);
  stop = stop_of (slice_get tolds event);
  time = slice_index_or times event 0;
  running = slice_index_or times event 0 + laps_of (slice_get tolds event) * p.period;
}

-- all events in the order of the instance
abbrev pub entries_of : Pesp → List ℕ → List Told → List Entry
entries_of p times tolds = map (entry_of p times tolds) (enumerate_from 0 p.events)

-- the event of the earlier way goes first, and along a way that of the earlier stop
abbrev pub entry_goes_before : Entry → Entry → Bool
entry_goes_before x y = nat_lt x.way y.way || ((x.way == y.way) && nat_lt x.stop y.stop)

-- the fields of the header and of an event
abbrev pub timetable_header : List (List ℕ)
timetable_header =
    codes "way" ∷ codes "line" ∷ codes "direction" ∷ codes "stop" ∷ codes "station" ∷ codes "kind" ∷ codes "event" ∷ codes "name" ∷ codes "time"
    ∷ codes "clock" ∷ codes "changes" ∷ []

-- the fields of an event, by what is told of it
abbrev pub told_fields : Option Told → Entry → List ℕ → List (List ℕ)
told_fields told e clock =
    decimal e.way ∷ told_line told ∷ direction_of told ∷ decimal e.stop ∷ station_of told ∷ told_kind told ∷ signed_decimal e.label
    ∷ told_name told ∷ decimal e.time ∷ clock ∷ changes_of told ∷ []

-- the fields of an event, its running time told as hours and minutes
abbrev pub entry_fields : List Told → Entry → List (List ℕ)
entry_fields tolds e = told_fields (slice_get tolds e.event) e (clock_text e.running)

-- the header and these records
abbrev pub timetable_text : List Told → List Entry → List ℕ
timetable_text tolds entries = records_text (timetable_header ∷ map (entry_fields tolds) entries)
