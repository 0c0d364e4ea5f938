use Rattle.std.proofs.Common.{length}
use Rattle.pesp_board.proofs.LentAll.{Parking}
use Rattle.pesp_board.proofs.lending_all.park_open.Given as goal

abbrev pub invariant-loop-first : goal.invariant-loop-first
invariant-loop-first l = Parking l.fn.queue l.queue l.best

abbrev pub decreases-loop-first : goal.decreases-loop-first
decreases-loop-first l = length l.queue.waiting
