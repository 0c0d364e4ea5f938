-- what was made is the kept ones of the rows that were read
use Rattle.std.proofs.Common.{◌≡◌}
use Rattle.pesp_reduce.specs.Fates.{kept_below}
use Rattle.pesp_reduce.proofs.fates.kept_rows.Given as goal

abbrev pub invariant-loop-i : goal.invariant-loop-i
invariant-loop-i l = l.made.items ≡ kept_below l.fates l.rows l.i
