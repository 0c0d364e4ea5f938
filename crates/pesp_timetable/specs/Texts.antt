-- A timetable as a text, of records or of JSON.
use Rattle.std.specs.Prelude.{◌≡◌, ℕ, List, Bool, true, false, IsPermutation, IsSortedBy}
use Rattle.pesp_problem.specs.Timetables.{Pesp}
use Rattle.pesp_timetable.specs.Timetable.{entries_of, entry_goes_before, timetable_text}
use Rattle.pesp_timetable.specs.Objects.{timetable_json}
use Rattle.pesp_railway.specs.declared.told.Told.{Told}
use Rattle.pesp_timetable.specs.declared.entry.Entry.{Entry}

-- these events as JSON, or as records
abbrev pub timetable_text_as : Bool → List Told → List Entry → List ℕ
timetable_text_as true tolds entries = timetable_json tolds entries
timetable_text_as false tolds entries = timetable_text tolds entries

-- a text is the timetable of times, as JSON or as records: each event with its label and its time, in the order of the ways and
-- stops that are told
pub record IsTimetableText (json : Bool) (p : Pesp) (times : List ℕ) (text : List ℕ) : Type 0 where
  pub tolds : List Told
  pub entries : List Entry
  pub all : IsPermutation (entries_of p times tolds) entries
  pub ordered : IsSortedBy entry_goes_before entries
  pub whole : text ≡ timetable_text_as json tolds entries
