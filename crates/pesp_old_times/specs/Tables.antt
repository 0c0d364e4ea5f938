-- What a table holds of the entries that were read.
use Rattle.std.specs.Prelude.{◌≡◌, ℕ, ℤ, List, Option, Some, None, count_by, if◌then◌else◌}
use Rattle.std.specs.Ordering.{int_eq}
use Rattle.indexmap.specs.IndexMap.{IndexMap, get}
use Rattle.pesp_old_times.specs.OldTimes.{has, is_stray, last_of}
use Rattle.pesp_old_times.specs.declared.table.Table.{Table}

-- the time that is told last of an event; nothing of a label that no event has
abbrev pub slot : List ℤ → List (ℤ × ℕ) → ℤ → Option (Option ℕ)
slot events entries label = if has events label then Some (last_of entries label) else None

-- a map with these events, and no time of any
abbrev pub AreBare : {S : Type 0} → List ℤ → IndexMap ℤ (Option ℕ) S → Type 0
AreBare events slots = (label : ℤ) → get int_eq slots label ≡ (if has events label then Some None else None)

-- a table of these events and entries
pub record HoldsTimes (events : List ℤ) (entries : List (ℤ × ℕ)) (table : Table) : Type 0 where
  pub slots : (label : ℤ) → get int_eq table.slots label ≡ slot events entries label
  pub strays : table.strays ≡ count_by (is_stray events) entries

-- the time that stands in a slot, none where there is no slot or it is empty
abbrev pub flat : Option (Option ℕ) → Option ℕ
flat None = None
flat (Some time) = time

-- what a table has of a label
abbrev pub time_of : Table → ℤ → Option ℕ
time_of table label = flat (get int_eq table.slots label)
