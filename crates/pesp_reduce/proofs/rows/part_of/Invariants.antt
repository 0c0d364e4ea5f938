-- what was made is the parts of the rows that were read
use Rattle.std.proofs.Common.{◌≡◌, length}
use Rattle.pesp_network.specs.Networks.{net_row_at, no_net_row}
use Rattle.pesp_reduce.specs.Rows.{row_or_loop, flag}
use Rattle.pesp_reduce.proofs.Lists.{Holds}
use Rattle.pesp_reduce.proofs.rows.part_of.Given as goal

abbrev pub invariant-loop-i : goal.invariant-loop-i
invariant-loop-i l = (length l.made.items ≡ l.i) × Holds no_net_row (λ k. row_or_loop (flag l.takes k) (net_row_at l.rows k)) l.made.items
