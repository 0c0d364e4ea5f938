-- Which instance a list of records is, or why it is none.
use Rattle.std.specs.Prelude.{Bool, ℕ, ◌+◌, ◌==◌, ◌&&◌, ◌||◌, nat_lt, nat_le, int_lt, int_le, ℤ, pos, neg_ℤ, nat_abs, List, [], ◌∷◌, ◌++◌, length, get_or, take, Option, Some, None, Result, Ok, Err, if◌then◌else◌}
use Rattle.std.specs.Option.{ok_or}
use Rattle.std.specs.List.{fold, position_or_len}
use Rattle.std.specs.Ordering.{int_eq}
use Rattle.pesp_problem.specs.declared.limits.TheConstants.{MOST_BOUND, MOST_EVENTS, MOST_LABEL, MOST_ROWS, MOST_WEIGHT}
use Rattle.indexmap.specs.IndexSet.{insert_key}
use Rattle.pesp_problem.specs.declared.row.Row.{Row}
use Rattle.pesp_instance.specs.Number.{all_blank, number_of}
use Rattle.pesp_instance.specs.declared.activity.Activity.{Activity}
use Rattle.pesp_instance.specs.declared.refusal.ReadRefusal.{ReadRefusal}
use Rattle.pesp_instance.specs.declared.refusal.ReadRefusal.TheVariants.{FieldCount, NotANumber, OutOfRange, BoundsCrossed, TooManyRows, TooManyEvents}

-- what follows a success, or the refusal
abbrev pub and_then : {A B E : Type 0} → Result A E → (A → Result B E) → Result B E
and_then (Ok x) next = next x
and_then (Err e) next = Err e

-- a value, unless something refuses it
abbrev pub unless_refused : {A E : Type 0} → Option E → A → Result A E
unless_refused None x = Ok x
unless_refused (Some e) x = Err e

-- the numbers that fields spell, or the first field that spells none; the first one of them has this number
unfoldable pub numbers_from : ℕ → ℕ → List (List ℕ) → Result (List ℤ) ReadRefusal
numbers_from at field [] = Ok []
numbers_from at field (text ∷ rest) =
    and_then (ok_or (number_of text) (NotANumber at field)) (λ n. and_then (numbers_from at (field + 1) rest) (λ ns. Ok (n ∷ ns)))

-- whether a number is from the least up to the greatest
abbrev pub is_between : ℤ → ℤ → ℤ → Bool
is_between least greatest n = int_le least n && int_le n greatest

-- whether a number keeps the limits of its field: three labels, two bounds and a weight
abbrev pub is_within : ℕ → ℤ → Bool
is_within field n =
    if nat_le field 3 then is_between (neg_ℤ (pos MOST_LABEL)) (pos MOST_LABEL) n
    else if nat_le field 5 then is_between (neg_ℤ (pos MOST_BOUND)) (pos MOST_BOUND) n
    else is_between (pos 0) (pos MOST_WEIGHT) n

-- the first number past its limits, where the first one is of this field
unfoldable pub out_of_range : ℕ → ℕ → List ℤ → Option ReadRefusal
out_of_range at field [] = None
out_of_range at field (n ∷ ns) = if is_within field n then out_of_range at (field + 1) ns else Some (OutOfRange at field)

-- six numbers as an activity
abbrev pub activity_from : List ℤ → Activity
activity_from ns = record {
  label = get_or ns 0 (pos 0);
  tail = get_or ns 1 (pos 0);
  head = get_or ns 2 (pos 0);
  lower = get_or ns 3 (pos 0);
  upper = get_or ns 4 (pos 0);
  weight = nat_abs (get_or ns 5 (pos 0));
}

-- an activity, or its fault where the upper bound is below the lower one
abbrev pub in_order : ℕ → Activity → Result Activity ReadRefusal
in_order at a = if int_lt a.upper a.lower then Err (BoundsCrossed at) else Ok a

-- the activity that six numbers make, or their first fault
abbrev pub assembled : ℕ → List ℤ → Result Activity ReadRefusal
assembled at ns = and_then (unless_refused (out_of_range at 1 ns) (activity_from ns)) (in_order at)

-- whether a record has six fields, or a blank seventh
abbrev pub fits : List (List ℕ) → Bool
fits fields = (length fields == 6) || ((length fields == 7) && all_blank (get_or fields 6 []))

-- the activity of a record, or its first fault
abbrev pub activity_of : ℕ → List (List ℕ) → Result Activity ReadRefusal
activity_of at fields = if fits fields then and_then (numbers_from at 1 (take 6 fields)) (assembled at) else Err (FieldCount at)

-- the events with one more, which stays where it is if it is there
abbrev pub add_event : List ℤ → ℤ → List ℤ
add_event events e = insert_key int_eq events e

-- the events with the two of an activity, the tail before the head
abbrev pub add_ends : List ℤ → Activity → List ℤ
add_ends events a = add_event (add_event events a.tail) a.head

-- the events of activities in the order of their first appearance
abbrev pub events_of : List Activity → List ℤ
events_of activities = fold add_ends [] activities

-- the place of an event
abbrev pub place_of : List ℤ → ℤ → ℕ
place_of events e = position_or_len (int_eq e) events

-- an activity with the places of its events
abbrev pub row_of : List ℤ → Activity → Row
row_of events a = record {
  label = a.label;
  tail = place_of events a.tail;
  head = place_of events a.head;
  lower = a.lower;
  upper = a.upper;
  weight = a.weight;
}

-- one more activity, unless there are too many rows or events
abbrev pub admit : List Activity → ℕ → Activity → Result (List Activity) ReadRefusal
admit before at a =
    if nat_lt (length before) MOST_ROWS
    then if nat_le (length (events_of (before ++ a ∷ []))) MOST_EVENTS then Ok (before ++ a ∷ []) else Err (TooManyEvents at)
    else Err (TooManyRows at)

-- the activities of records, after those before them, or the first fault
unfoldable pub activities_after : List Activity → List (ℕ × List (List ℕ)) → Result (List Activity) ReadRefusal
activities_after before [] = Ok before
activities_after before (r ∷ rest) =
    and_then (activity_of r.0 r.1) (λ a. and_then (admit before r.0 a) (λ activities. activities_after activities rest))
