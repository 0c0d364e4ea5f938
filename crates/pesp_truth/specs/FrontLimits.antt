-- The limits of a front.
use Rattle.std.specs.Prelude.{◌≡◌, ℕ, ◌≤◌, Bool, ◌&&◌, true, nat_le, List, length}
use Rattle.std.specs.List.{list_all, sum_by}
use Rattle.pesp_problem.specs.declared.limits.TheConstants.{MOST_CYCLES, MOST_ROWS, MOST_SCALE, MOST_SIGNED_ROWS}
use Rattle.pesp_problem.specs.declared.marked.MarkedRow.{MarkedRow}
use Rattle.pesp_truth.specs.Marks.{Marks}

-- a scale from 1 up to its limit
abbrev pub is_scale : ℕ → Bool
is_scale scale = nat_le 1 scale && nat_le scale MOST_SCALE

-- a row may have this number
abbrev pub is_row_number : ℕ → Bool
is_row_number n = nat_le 1 n && nat_le n MOST_ROWS

-- each row has a number that a row may have
abbrev pub are_numbered : List MarkedRow → Bool
are_numbered walk = list_all (λ s. is_row_number s.signed.row) walk

-- at least one row, each with a number that a row may have
abbrev pub is_walk : List MarkedRow → Bool
is_walk walk = nat_le 1 (length walk) && are_numbered walk

-- how many marked rows the walks have
abbrev pub total_rows : List (List MarkedRow) → ℕ
total_rows walks = sum_by (λ walk. length walk) walks

-- so many walks with so many marked rows are within the limits
abbrev pub are_few : ℕ → ℕ → Bool
are_few walks rows = nat_le walks MOST_CYCLES && nat_le rows MOST_SIGNED_ROWS

-- what a front may hold
abbrev pub marks_keep_limits : Marks → Bool
marks_keep_limits marks = is_scale marks.scale && are_few (length marks.walks) (total_rows marks.walks) && list_all is_walk marks.walks

-- the same as facts
pub record MarksKeepLimits (marks : Marks) : Type 0 where
  pub scale : (1 ≤ marks.scale) × (marks.scale ≤ MOST_SCALE)
  pub walks : length marks.walks ≤ MOST_CYCLES
  pub rows : total_rows marks.walks ≤ MOST_SIGNED_ROWS
  pub each : list_all is_walk marks.walks ≡ true
