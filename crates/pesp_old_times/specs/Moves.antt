-- What is told of wanted times, and of times beside them.
use Rattle.std.specs.Prelude.{ℕ, zero, suc, ◌+◌, ◌-◌, min, max, Bool, ◌&&◌, List, Option, Some, None, is_some, map, slice_index, slice_index_or, sum_by, if◌then◌else◌}
use Rattle.pesp_problem.specs.Timetables.{Pesp}
use Rattle.pesp_problem.specs.declared.row.Row.{Row}
use Rattle.pesp_report.specs.Violations.{is_violated}

-- the time that is wanted of the event at a place, if one is
abbrev pub wanted_at : List (Option ℕ) → ℕ → Option ℕ
wanted_at wanted place = slice_index_or wanted place None

-- whether times of both events of a row are wanted
abbrev pub is_wanted : List (Option ℕ) → Row → Bool
is_wanted wanted row = is_some (wanted_at wanted row.tail) && is_some (wanted_at wanted row.head)

-- a wanted time, 0 where none is wanted
abbrev pub or_zero : Option ℕ → ℕ
or_zero None = 0
or_zero (Some time) = time

-- 1 where times of both events of a row are wanted and violate it, else 0; the times of other events don't matter
abbrev pub violation : Pesp → List (Option ℕ) → Row → ℕ
violation p wanted row = if is_wanted wanted row && is_violated p (map or_zero wanted) row then 1 else 0

-- how many rows are violated
abbrev pub violated : Pesp → List (Option ℕ) → ℕ
violated p wanted = sum_by (violation p wanted) p.rows

-- how far two times below the period are from one another
abbrev pub apart : ℕ → ℕ → ℕ
apart from to = (from - to) + (to - from)

-- the same by the shorter way round
abbrev pub circular_distance : ℕ → ℕ → ℕ → ℕ
circular_distance period from to = min (apart from to) (period - apart from to)

-- how far an event has moved from where it is wanted
abbrev pub move_of : ℕ → Option ℕ → ℕ → ℕ
move_of period None time = 0
move_of period (Some wanted) time = circular_distance period wanted time

-- how far the event at a place has moved from where it is wanted
abbrev pub move_at : ℕ → List (Option ℕ) → List ℕ → ℕ → ℕ
move_at period wanted times place = move_of period (wanted_at wanted place) (slice_index times place)

-- 1 where an event has moved, else 0
abbrev pub some_move : ℕ → ℕ
some_move zero = 0
some_move (suc by) = 1

-- how many of the first events have moved
unfoldable pub count_moved : ℕ → List (Option ℕ) → List ℕ → ℕ → ℕ
count_moved period wanted times zero = 0
count_moved period wanted times (suc n) = count_moved period wanted times n + some_move (move_at period wanted times n)

-- the farthest move of the first events
unfoldable pub farthest : ℕ → List (Option ℕ) → List ℕ → ℕ → ℕ
farthest period wanted times zero = 0
farthest period wanted times (suc n) = max (farthest period wanted times n) (move_at period wanted times n)
