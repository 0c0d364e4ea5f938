-- what was made is the mapped rows that were read
use Rattle.std.proofs.Common.{◌≡◌, map, take}
use Rattle.pesp_reduce.specs.Fates.{mapped_row}
use Rattle.pesp_reduce.proofs.fates.mapped_rows.Given as goal

abbrev pub invariant-loop-row : goal.invariant-loop-row
invariant-loop-row l = l.made.items ≡ map (mapped_row l.stands l.shifts) (take l.row-index l.rows)
