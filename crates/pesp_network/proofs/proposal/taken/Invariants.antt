use Rattle.std.proofs.Common.{◌≤◌, vec_len, length, All}
use Rattle.pesp_problem.specs.Walks.{Names}
use Rattle.pesp_network.proofs.proposal.taken.Given as goal

abbrev pub invariant-loop-candidate : goal.invariant-loop-candidate
invariant-loop-candidate l = record {
  names : All (Names (length l.rows)) l.numbers.items;
  few : vec_len l.numbers ≤ l.candidate-index;
}
