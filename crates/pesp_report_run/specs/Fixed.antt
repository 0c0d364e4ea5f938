-- An instance with activities in front that hold events at times of a clock.
use Rattle.std.specs.Prelude.{◌≡◌, ℕ, ◌+◌, ◌<◌, List, Ok, length}
use Rattle.pesp_problem.specs.Timetables.{Pesp, row_at}
use Rattle.pesp_problem.specs.declared.row.Row.{Row}
use Rattle.pesp_instance.specs.Instance.{instance_of}
use Rattle.pesp_report.specs.Report.{label_at}

-- an activity holds its head at a time of the clock, which is the first event: its bounds are equal, and it weighs nothing
pub record IsHolding (row : Row) : Type 0 where
  pub clock : row.tail ≡ 0
  pub bounds : row.lower ≡ row.upper
  pub weight : row.weight ≡ 0

-- an activity of one instance is that of another: by labels, bounds and weight
pub record IsSameActivity (p q : Pesp) (row other : Row) : Type 0 where
  pub label : row.label ≡ other.label
  pub tail : label_at p.events row.tail ≡ label_at q.events other.tail
  pub head : label_at p.events row.head ≡ label_at q.events other.head
  pub lower : row.lower ≡ other.lower
  pub upper : row.upper ≡ other.upper
  pub weight : row.weight ≡ other.weight

-- the second instance has some activities in front that hold events, and behind them those of the first in their order
pub record HoldsEvents (p q : Pesp) : Type 0 where
  pub period : q.period ≡ p.period
  pub more : ℕ
  pub count : length q.rows ≡ more + length p.rows
  pub holding : (i : ℕ) → i < more → IsHolding (row_at q.rows i)
  pub kept : (i : ℕ) → i < length p.rows → IsSameActivity p q (row_at p.rows i) (row_at q.rows (more + i))

-- a text is that of such an instance
abbrev pub IsText : Pesp → List ℕ → Type 0
IsText p text = (q : Pesp) × (instance_of text p.period ≡ Ok q) × HoldsEvents p q
