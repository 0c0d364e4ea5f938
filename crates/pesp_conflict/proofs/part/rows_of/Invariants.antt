use Rattle.std.proofs.Common.{◌≡◌, take}
use Rattle.pesp_truth.specs.Conflicts.{unweighted_rows}
use Rattle.pesp_conflict.proofs.part.rows_of.Given as goal

abbrev pub invariant-loop-row : goal.invariant-loop-row
invariant-loop-row l = l.picked.items ≡ unweighted_rows l.rows (take l.row-index l.listed)
