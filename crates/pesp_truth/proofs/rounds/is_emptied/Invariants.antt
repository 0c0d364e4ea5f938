use Rattle.std.proofs.Common.{sum, length}
use Rattle.pesp_truth.specs.Rounds.{net_at}
use Rattle.pesp_truth.proofs.Rounding.{Known, gauge}
use Rattle.pesp_truth.proofs.rounds.is_emptied.Given as goal

abbrev pub invariant-loop-round : goal.invariant-loop-round
invariant-loop-round l = Known (net_at l.period l.arcs) l.ranges (length l.initial.before) l.words l.now l.round

abbrev pub decreases-loop-round : goal.decreases-loop-round
decreases-loop-round l = gauge l.round (sum l.words)
