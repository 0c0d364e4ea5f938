-- Networks: what clauses see of one, its arcs, its limits, and when its calls refuse.
use Rattle.std.specs.Prelude.{◌≡◌, ⊤, ℕ, ◌-◌, ◌<◌, ◌≤◌, ◌⊎◌, List, length, map, slice_index_or, pos, unsigned_abs, All, Contains, sum_by}
use Rattle.pesp_problem.specs.declared.limits.TheConstants.{MOST_EVENTS, MOST_LOWER, MOST_PERIOD, MOST_ROWS, MOST_SIGNED_ROWS, MOST_WEIGHT}
use Rattle.pesp_problem.specs.declared.row.SignedRow.{SignedRow}
use Rattle.pesp_problem.specs.declared.arc.Arc.{Arc}
use Rattle.pesp_problem.specs.Arcs.{Net}
use Rattle.pesp_problem.specs.Walks.{Names, HasWholeOffset}
use Rattle.pesp_problem.specs.Forests.{IsFundamental, AreFundamental, IsSimple}
use Rattle.pesp_network.specs.declared.row.NetRow.{NetRow}
use Rattle.pesp_network.specs.declared.refusal.NetRefusal.{NetRefusal}
use Rattle.pesp_network.specs.declared.refusal.NetRefusal.TheVariants.{Memory, TableTooLarge, BadRow}

-- a period, a number of events, the rows between them, and the rows of a spanning forest by their numbers from 1
pub record NetworkValue : Type 0 where
  pub period : ℕ
  pub events : ℕ
  pub rows : List NetRow
  pub forest : List ℕ

-- what a place past the end is read as
abbrev pub no_net_row : NetRow
no_net_row = record { tail = 0; head = 0; lower = pos 0; span = 0; weight = 0; origin = 0 }

-- the row at a place, from 0
abbrev pub net_row_at : List NetRow → ℕ → NetRow
net_row_at rows i = slice_index_or rows i no_net_row

-- a row without its origin
abbrev pub arc_of_net : NetRow → Arc
arc_of_net row = record { tail = row.tail; head = row.head; lower = row.lower; span = row.span; weight = row.weight }

-- the rows without their origins, in order
abbrev pub arcs_of_network : List NetRow → List Arc
arcs_of_network rows = map arc_of_net rows

-- a network as a net: its period and its arcs
abbrev pub net_of_network : NetworkValue → Net
net_of_network n = record { period = n.period; arcs = arcs_of_network n.rows }

-- ---- limits

-- the period and the number of events that a network may have
pub record KeepsSizes (period events : ℕ) : Type 0 where
  pub some_period : 1 ≤ period
  pub period_most : period ≤ MOST_PERIOD
  pub events_most : events ≤ MOST_EVENTS

-- a row of a network of such a period and so many events
pub record RowKeepsNetLimits (period events : ℕ) (row : NetRow) : Type 0 where
  pub tail : row.tail < events
  pub head : row.head < events
  pub span : row.span < period
  pub lower : unsigned_abs row.lower ≤ MOST_LOWER
  pub weight : row.weight ≤ MOST_WEIGHT

-- the period, the counts and each row
pub record KeepsNetLimits (n : NetworkValue) : Type 0 where
  pub some_period : 1 ≤ n.period
  pub period_most : n.period ≤ MOST_PERIOD
  pub events_most : n.events ≤ MOST_EVENTS
  pub rows_most : length n.rows ≤ MOST_ROWS
  pub each : All (RowKeepsNetLimits n.period n.events) n.rows

-- ---- refusals

-- the row at a place keeps its limits and is among the first 100000
pub record IsGoodAt (period events : ℕ) (rows : List NetRow) (i : ℕ) : Type 0 where
  pub place : i < MOST_ROWS
  pub keeps : RowKeepsNetLimits period events (net_row_at rows i)

-- period and count of events are within their limits, and this row, numbered from 1, is the first that isn't good
pub record IsFirstBadRow (period events : ℕ) (rows : List NetRow) (row : ℕ) : Type 0 where
  pub sizes : KeepsSizes period events
  pub exists : Names (length rows) row
  pub before : (i : ℕ) → i < row - 1 → IsGoodAt period events rows i
  pub bad : IsGoodAt period events rows (row - 1) → ⊥

-- row 0 where the period or the count of events is beyond its limit, else the first bad row
abbrev pub IsBadRow : ℕ → ℕ → List NetRow → ℕ → Type 0
IsBadRow period events rows row = ((row ≡ 0) × (KeepsSizes period events → ⊥)) ⊎ IsFirstBadRow period events rows row

-- the sizes are within their limits, and every row is good
pub record AreGood (period events : ℕ) (rows : List NetRow) : Type 0 where
  pub sizes : KeepsSizes period events
  pub each : (i : ℕ) → i < length rows → IsGoodAt period events rows i

-- when a network isn't made
abbrev pub IsNewRefusal : ℕ → ℕ → List NetRow → NetRefusal → Type 0
IsNewRefusal period events rows Memory = ⊤
IsNewRefusal period events rows TableTooLarge = ⊥
IsNewRefusal period events rows (BadRow row) = IsBadRow period events rows row

-- how many signed rows the walks have in all
abbrev pub signed_rows : List (List SignedRow) → ℕ
signed_rows table = sum_by length table

-- the fundamental walks without an event or a row twice have more than 10000000 signed rows
pub record AreTooMany (arcs : List Arc) (forest : List ℕ) : Type 0 where
  pub table : List (List SignedRow)
  pub fundamental : AreFundamental arcs forest table
  pub simple : All (IsSimple arcs) table
  pub many : MOST_SIGNED_ROWS < signed_rows table

-- when a table isn't given
abbrev pub IsTableRefusal : List Arc → List ℕ → NetRefusal → Type 0
IsTableRefusal arcs forest Memory = ⊤
IsTableRefusal arcs forest TableTooLarge = AreTooMany arcs forest
IsTableRefusal arcs forest (BadRow row) = ⊥

-- ---- slacks and times

-- a row outside the forest whose fundamental walks have no whole offset under these slacks, and one of these walks
pub record HasOpenRow (n : Net) (forest : List ℕ) (slacks : ℕ → ℕ) : Type 0 where
  pub row : ℕ
  pub exists : Names (length n.arcs) row
  pub outside : Contains forest row → ⊥
  pub walk : List SignedRow
  pub fundamental : IsFundamental n.arcs forest row walk
  pub open_each : (other : List SignedRow) → IsFundamental n.arcs forest row other → HasWholeOffset n slacks other → ⊥
