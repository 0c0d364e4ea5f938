use Rattle.std.proofs.Common.{◌≡◌, length, vec_len}
use Rattle.std.specs.Prelude.{All}
use Rattle.pesp_nodes.specs.Offsets.{IsSmallOffset}
use Rattle.pesp_nodes.specs.Problems.{problem_net}
use Rattle.pesp_bound.specs.Differences.{AreRowShifts}
use Rattle.pesp_bound.proofs.shifts.shifts_of.Given as goal

abbrev pub invariant-loop-place : goal.invariant-loop-place
invariant-loop-place l = record {
  long : vec_len l.shifts ≡ length l.problem.network.rows;
  shifts : AreRowShifts (problem_net l.problem) l.problem.table l.node l.place l.shifts.items;
  small : All (λ s. IsSmallOffset l.problem.network.period s.0 × IsSmallOffset l.problem.network.period s.1) l.shifts.items;
}
