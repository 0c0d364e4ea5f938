-- The times that a text gives to the events of an instance.
use Rattle.std.specs.Prelude.{◌≡◌, ⊤, ℕ, Bool, false, nat_lt, nat_eq, ℤ, List, [], ◌∷◌, Option, Some, None, Result, Ok, Err, codes, filter, slice_get, if◌then◌else◌}
use Rattle.std.specs.List.{enumerate_from, starts_with}
use Rattle.std.specs.Ordering.{int_eq}
use Rattle.std.specs.Fmt.{decimal, signed_decimal}
use Rattle.pesp_problem.specs.Timetables.{Pesp}
use Rattle.pesp_stream.specs.Number.{natural_of, whole_of}
use Rattle.pesp_stream.specs.Words.{lines_of_text, words_of}
use Rattle.pesp_report.specs.declared.refusal.TimesRefusal.{TimesRefusal}
use Rattle.pesp_report.specs.declared.refusal.TimesRefusal.TheVariants.{BadLine, WrongCount}

-- whether a line tells a time: it begins with `time `
abbrev pub names_a_time : List ℕ → Bool
names_a_time line = starts_with nat_eq line (codes "time ")

-- the lines that tell times, each with its number from 1 on
abbrev pub time_lines : List ℕ → List (ℕ × List ℕ)
time_lines text = filter (λ line. names_a_time line.1) (enumerate_from 1 (lines_of_text text))

-- whether a number was spelt, and it is the label of this event
abbrev pub is_label : ℤ → Option ℤ → Bool
is_label event None = false
is_label event (Some label) = int_eq label event

-- whether a word spells this label
abbrev pub spells_label : ℤ → List ℕ → Bool
spells_label event word = is_label event (whole_of word)

-- a time, where it is below the period
abbrev pub below_period : ℕ → Option ℕ → Option ℕ
below_period period None = None
below_period period (Some time) = if nat_lt time period then Some time else None

-- the time that a word spells, where it is below the period
abbrev pub time_below : ℕ → List ℕ → Option ℕ
time_below period word = below_period period (natural_of word)

-- the time that three words give to an event, where the second one spells its label
abbrev pub time_of_words : ℕ → ℤ → List (List ℕ) → Option ℕ
time_of_words period event [] = None
time_of_words period event (first ∷ []) = None
time_of_words period event (first ∷ label ∷ []) = None
time_of_words period event (first ∷ label ∷ time ∷ []) = if spells_label event label then time_below period time else None
time_of_words period event (first ∷ label ∷ time ∷ more ∷ rest) = None

-- a time and those that come behind it, or the refusal where there is none
abbrev pub behind : Option ℕ → TimesRefusal → Result (List ℕ) TimesRefusal → Result (List ℕ) TimesRefusal
behind None refusal rest = Err refusal
behind (Some time) refusal (Ok times) = Ok (time ∷ times)
behind (Some time) refusal (Err e) = Err e

-- the time that a line gives to the event at a place
abbrev pub time_for : ℕ → Option ℤ → List ℕ → Option ℕ
time_for period None line = None
time_for period (Some event) line = time_of_words period event (words_of line)

-- the time that a line gives to the event at a place, where it gives one
abbrev pub time_at : ℕ → List ℤ → ℕ → List ℕ → Option ℕ
time_at period events place line = time_for period (slice_get events place) line

-- the times that lines give to events in turn, or the first line that gives none to the next event
unfoldable pub times_for : ℕ → List ℤ → List (ℕ × List ℕ) → Result (List ℕ) TimesRefusal
times_for period [] [] = Ok []
times_for period (event ∷ events) [] = Err WrongCount
times_for period [] (line ∷ lines) = Err (BadLine line.0)
times_for period (event ∷ events) (line ∷ lines) =
    behind (time_of_words period event (words_of line.1)) (BadLine line.0) (times_for period events lines)

-- the times that a text gives to the events
abbrev pub times_from_text : Pesp → List ℕ → Result (List ℕ) TimesRefusal
times_from_text p text = times_for p.period p.events (time_lines text)

-- these lines give these events these times, one after another, as `time LABEL TIME`
abbrev pub TellTimes : List ℤ → List ℕ → List (ℕ × List ℕ) → Type 0
TellTimes [] [] [] = ⊤
TellTimes [] [] (line ∷ lines) = ⊥
TellTimes [] (time ∷ times) lines = ⊥
TellTimes (event ∷ events) [] lines = ⊥
TellTimes (event ∷ events) (time ∷ times) [] = ⊥
TellTimes (event ∷ events) (time ∷ times) (line ∷ lines) =
    (words_of line.1 ≡ codes "time" ∷ signed_decimal event ∷ decimal time ∷ []) × TellTimes events times lines
