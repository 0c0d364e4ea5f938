use Rattle.pesp_cert.specs.Limits.{count_pairs}
use Rattle.pesp_truth.proofs.Rooms.{LeavesRoom}
use Rattle.pesp_cert.proofs.limits.has_few_pairs.Given as goal

abbrev pub invariant-loop-line : goal.invariant-loop-line
invariant-loop-line l = LeavesRoom count_pairs l.lines 20000000 l.line-index l.left
