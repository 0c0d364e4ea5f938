-- A timetable as JSON: an array with an object for each event, whose keys are the columns of the records.
use Rattle.std.specs.Prelude.{◌≡◌, ℕ, List, [], ◌∷◌, ◌++◌, map, Option, slice_get, codes, decimal}
use Rattle.std.specs.Fmt.{signed_decimal}
use Rattle.json.specs.Token.{Token}
use Rattle.json.specs.Json.{Json, number, string, array, object, Items, no_items, item, no_members, member}
use Rattle.json.specs.Tree.{json_tokens}
use Rattle.json.specs.Print.{print}
use Rattle.json.specs.Written.{Written}
use Rattle.pesp_timetable.specs.Timetable.{clock_text, told_line, direction_of, station_of, told_kind, told_name, changes_of}
use Rattle.pesp_railway.specs.declared.told.Told.{Told}
use Rattle.pesp_timetable.specs.declared.entry.Entry.{Entry}

-- the members of an event: numbers where the column has numbers, and texts else
abbrev pub told_members : Option Told → Entry → List ℕ → Json
told_members told e clock =
    object (member (codes "way") (number (decimal e.way)) (member (codes "line") (string (told_line told))
    (member (codes "direction") (string (direction_of told)) (member (codes "stop") (number (decimal e.stop))
    (member (codes "station") (string (station_of told)) (member (codes "kind") (string (told_kind told))
    (member (codes "event") (number (signed_decimal e.label)) (member (codes "name") (string (told_name told))
    (member (codes "time") (number (decimal e.time)) (member (codes "clock") (string clock)
    (member (codes "changes") (string (changes_of told)) no_members)))))))))))

-- the object of an event, its running time told as hours and minutes
abbrev pub entry_object : List Told → Entry → Json
entry_object tolds e = told_members (slice_get tolds e.event) e (clock_text e.running)

-- the items of an array
abbrev pub json_items : List Json → Items
json_items [] = no_items
json_items (j ∷ js) = item j (json_items js)

-- the array of these events as its shortest text, and a line feed
abbrev pub timetable_json : List Told → List Entry → List ℕ
timetable_json tolds entries = print (json_tokens (array (json_items (map (entry_object tolds) entries)))) ++ codes "\n"

-- ---- for private clauses

-- a writer has these tokens more
pub record Adds (old new : Written) (more : List Token) : Type 0 where
  pub before : new.before ≡ old.before
  pub tokens : new.tokens ≡ old.tokens ++ more

-- the first members and the last ones, as tokens
abbrev pub told_stop : Option Told → Entry → List Token
told_stop told e =
    Token.key (codes "way") ∷ Token.number (decimal e.way) ∷ Token.key (codes "line") ∷ Token.string (told_line told)
    ∷ Token.key (codes "direction") ∷ Token.string (direction_of told) ∷ Token.key (codes "stop") ∷ Token.number (decimal e.stop)
    ∷ Token.key (codes "station") ∷ Token.string (station_of told) ∷ Token.key (codes "kind") ∷ Token.string (told_kind told) ∷ []

-- the last members of an event, as tokens
abbrev pub told_time : Option Told → Entry → List ℕ → List Token
told_time told e clock =
    Token.key (codes "event") ∷ Token.number (signed_decimal e.label) ∷ Token.key (codes "name") ∷ Token.string (told_name told)
    ∷ Token.key (codes "time") ∷ Token.number (decimal e.time) ∷ Token.key (codes "clock") ∷ Token.string clock
    ∷ Token.key (codes "changes") ∷ Token.string (changes_of told) ∷ []
