use Rattle.std.proofs.Common.{◌≡◌, ℕ, ◌<◌, length, take, false}
use Rattle.std.specs.Prelude.{slice_index_or}
use Rattle.pesp_branching.proofs.passes.passed_rows.Given as goal
use Rattle.pesp_branching.specs.Rooms.{is_passed}

abbrev pub invariant-loop-walk : goal.invariant-loop-walk
invariant-loop-walk l = (length l.passed.items ≡ length l.problem.network.rows)
    × ((i : ℕ) → i < length l.problem.network.rows
    → slice_index_or l.passed.items i false ≡ is_passed (take l.walk-index l.problem.table) i)
