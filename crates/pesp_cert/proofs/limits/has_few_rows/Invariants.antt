use Rattle.std.proofs.Common.{length}
use Rattle.pesp_truth.proofs.Rooms.{LeavesRoom}
use Rattle.pesp_cert.proofs.limits.has_few_rows.Given as goal

abbrev pub invariant-loop-walk : goal.invariant-loop-walk
invariant-loop-walk l = LeavesRoom (λ rows. length rows) l.cycles 10000000 l.walk-index l.left
