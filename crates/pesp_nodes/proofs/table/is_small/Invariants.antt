use Rattle.std.proofs.Common.{◌≡◌, ◌≤◌, take, length}
use Rattle.std.specs.Prelude.{sum_by}
use Rattle.pesp_nodes.proofs.table.is_small.Given as goal

abbrev pub invariant-loop-walk : goal.invariant-loop-walk
invariant-loop-walk l = (l.rows ≡ sum_by length (take l.walk-index l.table)) × (l.rows ≤ 10000000)
