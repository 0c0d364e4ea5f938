-- the rows that were read have their fates
use Rattle.std.proofs.Common.{◌≡◌, ℕ, ◌+◌, ◌<◌, length}
use Rattle.pesp_network.specs.Networks.{net_row_at, arcs_of_network}
use Rattle.pesp_reduce.specs.Rows.{flag}
use Rattle.pesp_reduce.specs.Fates.{IsFate, fate_at}
use Rattle.pesp_reduce.proofs.fates.fates_of.Given as goal

abbrev pub invariant-loop-i : goal.invariant-loop-i
invariant-loop-i l = (length l.fates.items ≡ l.i)
    × ((k : ℕ) → k < l.i → IsFate l.period (net_row_at l.rows k) (flag l.contracted k)
    (arcs_of_network l.left.rows) (k + 1) (fate_at l.fates.items k))
