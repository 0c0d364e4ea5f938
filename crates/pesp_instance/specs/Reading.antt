-- An instance in the words of its records: which activities they are, and which fault is the first.
use Rattle.std.specs.Prelude.{◌≡◌, ℕ, ◌≤◌, ◌≤ℤ◌, ℤ, pos, neg_ℤ, true, List, [], ◌∷◌, ◌++◌, length, slice_index_or, Err}
use Rattle.std.specs.List.{AllZip}
use Rattle.pesp_problem.specs.declared.limits.TheConstants.{MOST_BOUND, MOST_EVENTS, MOST_ROWS, MOST_WEIGHT}
use Rattle.pesp_problem.specs.Limits.{IsLabel}
use Rattle.pesp_instance.specs.Number.{Spells}
use Rattle.pesp_instance.specs.Activities.{activity_of, admit, and_then, events_of, fits}
use Rattle.pesp_instance.specs.declared.activity.Activity.{Activity}
use Rattle.pesp_instance.specs.declared.refusal.ReadRefusal.{ReadRefusal}

-- an activity keeps its limits
pub record KeepsActivity (a : Activity) : Type 0 where
  pub label : IsLabel a.label
  pub tail : IsLabel a.tail
  pub head : IsLabel a.head
  pub lower : neg_ℤ (pos MOST_BOUND) ≤ℤ a.lower
  pub bounds : a.lower ≤ℤ a.upper
  pub upper : a.upper ≤ℤ pos MOST_BOUND
  pub weight : a.weight ≤ MOST_WEIGHT

-- the field at a place spells this number
abbrev pub SpellsAt : List (List ℕ) → ℕ → ℤ → Type 0
SpellsAt fields place n = Spells (slice_index_or fields place []) n

-- the six fields of a record spell an activity that keeps its limits
pub record IsActivityOf (fields : List (List ℕ)) (a : Activity) : Type 0 where
  pub six : fits fields ≡ true
  pub label : SpellsAt fields 0 a.label
  pub tail : SpellsAt fields 1 a.tail
  pub head : SpellsAt fields 2 a.head
  pub lower : SpellsAt fields 3 a.lower
  pub upper : SpellsAt fields 4 a.upper
  pub weight : SpellsAt fields 5 (pos a.weight)
  pub limits : KeepsActivity a

-- the records are these activities, one each and in order, and neither rows nor events are too many
pub record AreActivities (records : List (ℕ × List (List ℕ))) (activities : List Activity) : Type 0 where
  pub each : AllZip (λ record_at a. IsActivityOf record_at.1 a) records activities
  pub rows : length activities ≤ MOST_ROWS
  pub events : length (events_of activities) ≤ MOST_EVENTS

-- the records before one are activities, and that one has this fault
pub record IsFirstRefusal (records : List (ℕ × List (List ℕ))) (e : ReadRefusal) : Type 0 where
  pub front : List (ℕ × List (List ℕ))
  pub activities : List Activity
  pub at : ℕ
  pub fields : List (List ℕ)
  pub back : List (ℕ × List (List ℕ))
  pub whole : records ≡ front ++ (at, fields) ∷ back
  pub good : AreActivities front activities
  pub fault : and_then (activity_of at fields) (admit activities at) ≡ Err e
