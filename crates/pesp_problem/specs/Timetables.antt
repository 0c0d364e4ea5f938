-- Instances, times, slacks, timetables and their costs (Serafini and Ukovich 1989).
use Rattle.std.specs.Prelude.{◌≡◌, ℕ, ◌*◌, ◌<◌, List, length, slice_index, slice_index_or, ℤ, pos, ◌-ℤ◌, ◌≤ℤ◌, unsigned_abs, All, sum_by}
use Rattle.std.specs.Int.{int_rem_euclid}
use Rattle.pesp_problem.specs.declared.row.Row.{Row}

-- a periodic event scheduling problem: its period, the labels of its events in order, and its rows
pub record Pesp : Type 0 where
  pub period : ℕ
  pub events : List ℤ
  pub rows : List Row

-- what a place past the end is read as
abbrev pub no_row : Row
no_row = record { label = pos 0; tail = 0; head = 0; lower = pos 0; upper = pos 0; weight = 0 }

-- the row at a place, from 0
abbrev pub row_at : List Row → ℕ → Row
row_at rows i = slice_index_or rows i no_row

-- one time below the period for each event
abbrev pub AreTimes : Pesp → List ℕ → Type 0
AreTimes p times = (length times ≡ length p.events) × All (λ t. t < p.period) times

-- the remainder from 0 to the period less 1
abbrev pub remainder : ℕ → ℤ → ℕ
remainder period z = unsigned_abs (int_rem_euclid z (pos period))

-- from the one event's time to the other's
abbrev pub difference : List ℕ → ℕ → ℕ → ℤ
difference times tail head = pos (slice_index times head) -ℤ pos (slice_index times tail)

-- the slack of a row: the remainder of the difference of times less the lower bound
abbrev pub slack : ℕ → List ℕ → Row → ℕ
slack period times row = remainder period (difference times row.tail row.head -ℤ row.lower)

-- the slack is at most upper - lower
abbrev pub IsSatisfied : Pesp → List ℕ → Row → Type 0
IsSatisfied p times row = pos (slack p.period times row) ≤ℤ (row.upper -ℤ row.lower)

-- times at which every row is satisfied
abbrev pub IsTimetable : Pesp → List ℕ → Type 0
IsTimetable p times = AreTimes p times × All (λ row. IsSatisfied p times row) p.rows

-- the sum of weight times slack
abbrev pub cost : ℕ → List Row → List ℕ → ℕ
cost period rows times = sum_by (λ row. row.weight * slack period times row) rows

-- times that are a timetable of this cost
abbrev pub IsTimetableOfCost : Pesp → List ℕ → ℕ → Type 0
IsTimetableOfCost p times c = IsTimetable p times × (cost p.period p.rows times ≡ c)
