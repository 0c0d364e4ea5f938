-- The times that a text tells of the events of an instance, by their labels and in any order.
use Rattle.std.specs.Prelude.{◌≡◌, ℕ, ◌-◌, ◌%◌, ◌==◌, Bool, not, ℤ, List, [], ◌∷◌, Option, Some, None, Result, Ok, Err, length, map, take, count_by, sum_by, slice_index, if◌then◌else◌}
use Rattle.std.specs.Ordering.{int_eq}
use Rattle.std.specs.List.{list_any}
use Rattle.csv.specs.Reading.{strip_bom}
use Rattle.pesp_problem.specs.Timetables.{Pesp}
use Rattle.pesp_stream.specs.Number.{natural_of, whole_of}
use Rattle.pesp_stream.specs.Words.{words_of}
use Rattle.pesp_report.specs.TimesText.{time_lines}
use Rattle.pesp_report.specs.declared.refusal.TimesRefusal.{TimesRefusal}
use Rattle.pesp_report.specs.declared.refusal.TimesRefusal.TheVariants.{BadLine}

-- a line without a CR at its end
abbrev pub without_cr : List ℕ → List ℕ
without_cr line = if slice_index line (length line - 1) == 13 then take (length line - 1) line else line

-- a label and a time, taken modulo the period
abbrev pub label_and_time : ℕ → Option ℤ → Option ℕ → Option (ℤ × ℕ)
label_and_time period None time = None
label_and_time period (Some label) None = None
label_and_time period (Some label) (Some time) = Some (label, time % period)

-- what three words tell
abbrev pub entry_of_words : ℕ → List (List ℕ) → Option (ℤ × ℕ)
entry_of_words period [] = None
entry_of_words period (first ∷ []) = None
entry_of_words period (first ∷ label ∷ []) = None
entry_of_words period (first ∷ label ∷ time ∷ []) = label_and_time period (whole_of label) (natural_of time)
entry_of_words period (first ∷ label ∷ time ∷ more ∷ rest) = None

-- what a line tells
abbrev pub line_entry : ℕ → List ℕ → Option (ℤ × ℕ)
line_entry period line = entry_of_words period (words_of (without_cr line))

-- an entry and those that come behind it, or the refusal where there is none
abbrev pub behind : Option (ℤ × ℕ) → TimesRefusal → Result (List (ℤ × ℕ)) TimesRefusal → Result (List (ℤ × ℕ)) TimesRefusal
behind None refusal rest = Err refusal
behind (Some e) refusal (Ok es) = Ok (e ∷ es)
behind (Some e) refusal (Err r) = Err r

-- what numbered lines tell, or the first of them that tells nothing
unfoldable pub entries_for : ℕ → List (ℕ × List ℕ) → Result (List (ℤ × ℕ)) TimesRefusal
entries_for period [] = Ok []
entries_for period (line ∷ lines) = behind (line_entry period line.1) (BadLine line.0) (entries_for period lines)

-- what a text tells by its lines that begin with `time `; a byte order mark at its start is passed over
abbrev pub entries_from_text : ℕ → List ℕ → Result (List (ℤ × ℕ)) TimesRefusal
entries_from_text period text = entries_for period (time_lines (strip_bom text))

-- the one time where it is told, else the other
abbrev pub or_else : Option ℕ → Option ℕ → Option ℕ
or_else (Some time) other = Some time
or_else None other = other

-- the time that is told last of the event with this label, if one is told
unfoldable pub last_of : List (ℤ × ℕ) → ℤ → Option ℕ
last_of [] label = None
last_of (e ∷ es) label = or_else (last_of es label) (if int_eq e.0 label then Some e.1 else None)

-- whether one of the events has this label
abbrev pub has : List ℤ → ℤ → Bool
has events label = list_any (λ event. int_eq event label) events

-- whether no event has the label of which a time is told
abbrev pub is_stray : List ℤ → ℤ × ℕ → Bool
is_stray events e = not (has events e.0)

-- 1 where there is no time, else 0
abbrev pub lack : Option ℕ → ℕ
lack None = 1
lack (Some time) = 0

-- each event has the time that is told of it last, in the order of the events; so many of them have none, and so many times
-- are told of no event
pub record AreToldBy (p : Pesp) (entries : List (ℤ × ℕ)) (times : List (Option ℕ)) (missing strays : ℕ) : Type 0 where
  pub times_told : times ≡ map (last_of entries) p.events
  pub without : missing ≡ sum_by lack times
  pub others : strays ≡ count_by (is_stray p.events) entries

-- this is what a text tells
abbrev pub TellsTimes : Pesp → List ℕ → List (Option ℕ) → ℕ → ℕ → Type 0
TellsTimes p text times missing strays =
    (entries : List (ℤ × ℕ)) × (entries_from_text p.period text ≡ Ok entries) × AreToldBy p entries times missing strays
