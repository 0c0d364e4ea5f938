-- The rows and the events of the activities that were read so far.
use Rattle.std.specs.Prelude.{◌≡◌, ◌⊎◌, ⊤, ◌<◌, ℤ, List, [], ◌∷◌, length, map, Result, Ok, Err}
use Rattle.pesp_problem.specs.declared.row.Row.{Row}
use Rattle.pesp_instance.specs.Activities.{events_of, place_of, row_of}
use Rattle.pesp_instance.specs.declared.activity.Activity.{Activity}
use Rattle.pesp_instance.specs.declared.table.Table.{Table}
use Rattle.pesp_instance.specs.declared.refusal.ReadRefusal.{ReadRefusal}
use Rattle.pesp_instance.specs.declared.refusal.ReadRefusal.TheVariants.{Memory}

-- each activity's ends are among the events
unfoldable pub AllPlaced : List ℤ → List Activity → Type 0
AllPlaced events [] = ⊤
AllPlaced events (a ∷ rest) = (place_of events a.tail < length events) × (place_of events a.head < length events) × AllPlaced events rest

-- what the rows and the events of some activities are
pub record IsTable (rows : List Row) (events : List ℤ) (activities : List Activity) : Type 0 where
  pub in_order : events ≡ events_of activities
  pub as_rows : rows ≡ map (row_of events) activities
  pub placed : AllPlaced events activities

-- a table holds the activities that are wanted
abbrev pub Holds : Result (List Activity) ReadRefusal → Table → Type 0
Holds wanted table = (activities : List Activity) × (wanted ≡ Ok activities) × IsTable table.rows.items table.events.keys activities

-- why there is none: memory, or the refusal that is wanted
abbrev pub RefusesActivities : Result (List Activity) ReadRefusal → ReadRefusal → Type 0
RefusesActivities wanted e = (e ≡ Memory) ⊎ (wanted ≡ Err e)
