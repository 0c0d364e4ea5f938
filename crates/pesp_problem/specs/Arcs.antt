-- Nets: a period and arcs, all that walks, nodes and leaf values see of a problem.
use Rattle.std.specs.Prelude.{◌≡◌, ℕ, ◌-◌, ◌⊎◌, min, List, map, length, slice_index_or, ℤ, pos, ◌-ℤ◌, unsigned_abs}
use Rattle.pesp_problem.specs.declared.row.Row.{Row}
use Rattle.pesp_problem.specs.declared.arc.Arc.{Arc}
use Rattle.pesp_problem.specs.Sums.{sum_below}
use Rattle.pesp_problem.specs.Timetables.{Pesp, difference, remainder}

-- a periodic event scheduling problem without labels
pub record Net : Type 0 where
  pub period : ℕ
  pub arcs : List Arc

-- what a place past the end is read as
abbrev pub no_arc : Arc
no_arc = record { tail = 0; head = 0; lower = pos 0; span = 0; weight = 0 }

-- the arc at a place, from 0
abbrev pub arc_at : List Arc → ℕ → Arc
arc_at arcs i = slice_index_or arcs i no_arc

-- the events at the ends of the row of a number, from 1
abbrev pub tail_of : List Arc → ℕ → ℕ
tail_of arcs k = (arc_at arcs (k - 1)).tail

-- the event at the head of the row of a number, from 1
abbrev pub head_of : List Arc → ℕ → ℕ
head_of arcs k = (arc_at arcs (k - 1)).head

-- the arc has these two ends, in one order or the other
abbrev pub HasEnds : Arc → ℕ → ℕ → Type 0
HasEnds arc x y = ((arc.tail ≡ x) × (arc.head ≡ y)) ⊎ ((arc.head ≡ x) × (arc.tail ≡ y))

-- the greatest slack that a row may have
abbrev pub span : ℕ → Row → ℕ
span period row = min (unsigned_abs (row.upper -ℤ row.lower)) (period - 1)

-- a row as an arc: its ends, its lower bound, its span and its weight
abbrev pub arc_of : ℕ → Row → Arc
arc_of period row = record { tail = row.tail; head = row.head; lower = row.lower; span = span period row; weight = row.weight }

-- the arcs of an instance's rows, in order
abbrev pub arcs_of : Pesp → List Arc
arcs_of p = map (arc_of p.period) p.rows

-- an instance as a net: its period and its arcs
abbrev pub net_of : Pesp → Net
net_of p = record { period = p.period; arcs = arcs_of p }

-- the sum of a term over the places of the arcs
abbrev pub over_arcs : List Arc → (ℕ → ℤ) → ℤ
over_arcs arcs term = sum_below (length arcs) term

-- the slack of an arc at times: the remainder of the difference of times less the lower bound
abbrev pub arc_slack : ℕ → List ℕ → Arc → ℕ
arc_slack period times arc = remainder period (difference times arc.tail arc.head -ℤ arc.lower)

-- the slacks at times, by place
abbrev pub slacks_at : Net → List ℕ → ℕ → ℕ
slacks_at n times i = arc_slack n.period times (arc_at n.arcs i)
