-- Rows that never matter, fixed rows, and the rows that stand in their places.
use Rattle.std.specs.Prelude.{◌≡◌, ℕ, ◌-◌, List, slice_index_or, Bool, false, pos, if◌then◌else◌, ◌&&◌, ◌==◌}
use Rattle.pesp_problem.specs.declared.arc.Arc.{Arc}
use Rattle.pesp_network.specs.declared.row.NetRow.{NetRow}

-- a free row of weight 0: it is satisfied by all times and costs nothing
abbrev pub IsFree : ℕ → Arc → Type 0
IsFree period arc = (arc.span ≡ period - 1) × (arc.weight ≡ 0)

-- whether a row is free and of weight 0
abbrev pub is_free : ℕ → NetRow → Bool
is_free period row = (row.span == period - 1) && (row.weight == 0)

-- a loop at the tail of a row, which stands for the row where it takes no part
abbrev pub loop_at : NetRow → NetRow
loop_at row = record { tail = row.tail; head = row.tail; lower = pos 0; span = 0; weight = 0; origin = row.origin }

-- the row where it takes part, else the loop at its tail
abbrev pub row_or_loop : Bool → NetRow → NetRow
row_or_loop takes row = if takes then row else loop_at row

-- a row, or a loop where it is a free row of weight 0
abbrev pub row_that_matters : ℕ → NetRow → NetRow
row_that_matters period row = if is_free period row then loop_at row else row

-- a row, or a loop where it isn't fixed
abbrev pub fixed_row : NetRow → NetRow
fixed_row row = row_or_loop (row.span == 0) row

-- a truth value at a place, false past the end
abbrev pub flag : List Bool → ℕ → Bool
flag flags i = slice_index_or flags i false
