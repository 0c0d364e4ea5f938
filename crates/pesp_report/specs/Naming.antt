-- The names of events.
use Rattle.std.specs.Prelude.{ℕ, ℤ, if◌then◌else◌, List, [], ◌∷◌, Option, Some, None, slice_get, string_bytes, bytes_eq, codes}
use Rattle.std.specs.Ordering.{int_eq}
use Rattle.indexmap.specs.IndexMap.{get}
use Rattle.pesp_report.specs.declared.names.Name.{Name}
use Rattle.pesp_report.specs.declared.names.Names.{Names}

-- what stands at a place, if there is one
abbrev pub told_at : List Name → Option ℕ → Option Name
told_at entries None = None
told_at entries (Some place) = slice_get entries place

-- what is told of the event with this label, if something is
abbrev pub entry_told_of : Names → ℤ → Option Name
entry_told_of names event = told_at names.entries.items (get int_eq names.places event)

-- how far a station is, where a record tells it
abbrev pub distance_by : List ℕ → Name → Option ℕ
distance_by station name = if bytes_eq (string_bytes name.station) station then name.distance else None

-- what is told first: the one, or where it is nothing the other
unfoldable pub first_told : Option ℕ → Option ℕ → Option ℕ
first_told (Some distance) later = Some distance
first_told None later = later

-- how far a station is, by the first record that tells it; nothing where none does
unfoldable pub distance_among : List ℕ → List Name → Option ℕ
distance_among station [] = None
distance_among station (name ∷ later) = first_told (distance_by station name) (distance_among station later)

-- how far a station is along the way
abbrev pub distance_of : Names → List ℕ → Option ℕ
distance_of names station = distance_among station names.entries.items

-- a name as bytes; none where nothing is told
abbrev pub bytes_of : Option Name → List ℕ
bytes_of None = []
bytes_of (Some name) = string_bytes name.name

-- the name of the event with this label, as bytes
abbrev pub name_of : Names → ℤ → List ℕ
name_of names event = bytes_of (entry_told_of names event)

-- what events are called, where names are told
abbrev pub naming_of : Option Names → Option (ℤ → List ℕ)
naming_of None = None
naming_of (Some names) = Some (name_of names)

-- the last fields of a header, and those of an activity from one event to another: the names of both, where names are told
abbrev pub name_header : Option (ℤ → List ℕ) → List (List ℕ)
name_header None = []
name_header (Some name) = codes "tail_name" ∷ codes "head_name" ∷ []

-- the names of the two events of an activity, where names are told
abbrev pub name_fields : Option (ℤ → List ℕ) → ℤ → ℤ → List (List ℕ)
name_fields None tail head = []
name_fields (Some name) tail head = name tail ∷ name head ∷ []
