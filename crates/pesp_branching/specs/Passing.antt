-- The rows that cycles pass.
use Rattle.std.specs.Prelude.{◌≡◌, ℕ, ◌<◌, List, length, slice_index_or, Bool, false}
use Rattle.pesp_nodes.specs.Problems.{ProblemValue}
use Rattle.pesp_branching.specs.Rooms.{is_passed}

-- for each row whether some cycle passes it
pub record ArePassedRows (p : ProblemValue) (passed : List Bool) : Type 0 where
  pub long : length passed ≡ length p.network.rows
  pub each : (i : ℕ) → i < length p.network.rows → slice_index_or passed i false ≡ is_passed p.table i
