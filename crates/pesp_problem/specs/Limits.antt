-- The limits that every instance keeps.
use Rattle.std.specs.Prelude.{ℕ, ◌<◌, ◌≤◌, length, ℤ, pos, neg_ℤ, ◌≤ℤ◌, unsigned_abs, All}
use Rattle.pesp_problem.specs.declared.limits.TheConstants.{MOST_BOUND, MOST_EVENTS, MOST_LABEL, MOST_PERIOD, MOST_ROWS, MOST_WEIGHT}
use Rattle.pesp_problem.specs.declared.row.Row.{Row}
use Rattle.pesp_problem.specs.Timetables.{Pesp}

-- the label of an activity or an event
abbrev pub IsLabel : ℤ → Type 0
IsLabel label = unsigned_abs label ≤ MOST_LABEL

-- a row of an instance with so many events
pub record RowKeepsLimits (events : ℕ) (row : Row) : Type 0 where
  pub label : IsLabel row.label
  pub tail : row.tail < events
  pub head : row.head < events
  pub lower : neg_ℤ (pos MOST_BOUND) ≤ℤ row.lower
  pub bounds : row.lower ≤ℤ row.upper
  pub upper : row.upper ≤ℤ pos MOST_BOUND
  pub weight : row.weight ≤ MOST_WEIGHT

-- the period, the counts and each row
pub record KeepsLimits (p : Pesp) : Type 0 where
  pub some_period : 1 ≤ p.period
  pub period : p.period ≤ MOST_PERIOD
  pub events : length p.events ≤ MOST_EVENTS
  pub labels : All IsLabel p.events
  pub rows : length p.rows ≤ MOST_ROWS
  pub each : All (RowKeepsLimits (length p.events)) p.rows
