use Rattle.std.proofs.Common.{length}
use Rattle.pesp_truth.specs.Rounds.{net_at}
use Rattle.pesp_truth.proofs.Rounding.{Going}
use Rattle.pesp_truth.proofs.rounds.visit_rows.Given as goal

abbrev pub invariant-loop-place : goal.invariant-loop-place
invariant-loop-place l = Going (net_at l.period l.arcs) l.ranges (length l.before) l.before l.now l.place l.initial.words l.words l.changed
