-- Times of the events that are left, and slacks at times that come back.
use Rattle.std.specs.Prelude.{ℕ, ◌+◌, ◌-◌, ◌%◌, List, slice_index, ℤ, pos, ◌+ℤ◌, ◌-ℤ◌, Bool, true, false, if◌then◌else◌}
use Rattle.pesp_problem.specs.Timetables.{remainder}
use Rattle.pesp_network.specs.declared.row.NetRow.{NetRow}
use Rattle.pesp_reduce.specs.declared.fate.Fate.{Fate}
use Rattle.pesp_reduce.specs.declared.fate.Fate.TheVariants.{Free, Contracted, Bridge, Kept}

-- the time that an event's shift leads back to
abbrev pub lowered_time : ℕ → List ℕ → List ℕ → ℕ → ℕ
lowered_time period times shifts event = ((slice_index times event + period) - slice_index shifts event) % period

-- the time of the event that an event becomes, and the shift
abbrev pub shifted : List ℕ → List ℕ → List ℕ → ℕ → ℤ
shifted stands shifts times event = pos (slice_index times (slice_index stands event)) +ℤ pos (slice_index shifts event)

-- whether a row with this fate is a bridge of what is left
abbrev pub is_bridge : Fate → Bool
is_bridge Free = false
is_bridge Contracted = false
is_bridge Bridge = true
is_bridge Kept = false

-- the slack of a row at shifted times, and 0 for a bridge
abbrev pub lifted_slack : ℕ → List ℕ → List ℕ → List ℕ → NetRow → Fate → ℕ
lifted_slack period stands shifts times row fate =
    if is_bridge fate then 0 else remainder period
    ((shifted stands shifts times row.head -ℤ shifted stands shifts times row.tail) -ℤ row.lower)
