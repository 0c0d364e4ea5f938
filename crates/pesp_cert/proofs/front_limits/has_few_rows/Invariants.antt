use Rattle.std.proofs.Common.{length}
use Rattle.pesp_truth.proofs.Rooms.{LeavesRoom}
use Rattle.pesp_cert.proofs.front_limits.has_few_rows.Given as goal

abbrev pub invariant-loop-walk : goal.invariant-loop-walk
invariant-loop-walk l = LeavesRoom (λ walk. length walk) l.walks 10000000 l.walk-index l.left
