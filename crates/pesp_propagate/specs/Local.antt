-- Sides of fundamental cuts, times with one side shifted, and timetables that no such shift makes cheaper.
use Rattle.std.specs.Prelude.{◌≡◌, ◌≢◌, ℕ, ◌+◌, ◌%◌, ◌<◌, ◌≤◌, List, length, slice_index, Bool, if◌then◌else◌, Contains}
use Rattle.pesp_problem.specs.declared.arc.Arc.{Arc}
use Rattle.pesp_problem.specs.Arcs.{Net, tail_of, head_of}
use Rattle.pesp_problem.specs.NetTimetables.{IsNetTimetable, net_cost}

-- of the forest's rows, named by their numbers, this one alone joins the side to the rest
pub record IsFundamentalSide (arcs : List Arc) (forest : List ℕ) (row : ℕ) (side : ℕ → Bool) : Type 0 where
  pub crosses : side (tail_of arcs row) ≢ side (head_of arcs row)
  pub keeps : (k : ℕ) → Contains forest k → k ≢ row → side (tail_of arcs k) ≡ side (head_of arcs k)

-- the times of the side are so much later, around the period, and the others stay
pub record IsShifted (period : ℕ) (side : ℕ → Bool) (amount : ℕ) (times others : List ℕ) : Type 0 where
  pub count : length others ≡ length times
  pub places : (x : ℕ) → x < length times → slice_index others x
      ≡ (if side x then (slice_index times x + amount) % period else slice_index times x)

-- no shift of one side of a fundamental cut of the forest, by any amount, is a cheaper timetable
abbrev pub IsLocal : Net → ℕ → List ℕ → List ℕ → Type 0
IsLocal n events forest times = (row : ℕ) → Contains forest row → (side : ℕ → Bool)
    → IsFundamentalSide n.arcs forest row side → (amount : ℕ) (others : List ℕ)
    → IsShifted n.period side amount times others
    → IsNetTimetable n events others → net_cost n times ≤ net_cost n others
