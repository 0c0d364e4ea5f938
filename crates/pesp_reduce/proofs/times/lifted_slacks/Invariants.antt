-- what was made is the slacks of the rows that were read
use Rattle.std.proofs.Common.{◌≡◌, ◌<◌, length, All}
use Rattle.pesp_network.specs.Networks.{net_row_at}
use Rattle.pesp_reduce.specs.Fates.{fate_at}
use Rattle.pesp_reduce.specs.Times.{lifted_slack}
use Rattle.pesp_reduce.proofs.Lists.{Holds}
use Rattle.pesp_reduce.proofs.times.lifted_slacks.Given as goal

abbrev pub invariant-loop-i : goal.invariant-loop-i
invariant-loop-i l = (length l.slacks.items ≡ l.i) × All (λ y. y < l.period) l.slacks.items
    × Holds 0 (λ k. lifted_slack l.period l.stands l.shifts l.times (net_row_at l.rows k) (fate_at l.fates k))
    l.slacks.items
