use Rattle.std.proofs.Common.{◌≡◌, ◌+◌, length, vec_len}
use Rattle.pesp_network.specs.Chains.{Chained}
use Rattle.pesp_network.specs.Growing.{at}
use Rattle.pesp_network.specs.Networks.{arcs_of_network}
use Rattle.pesp_problem.specs.Arcs.{tail_of, head_of}
use Rattle.pesp_network.proofs.chains.chain_rows.Given as goal

abbrev pub invariant-loop-i : goal.invariant-loop-i
invariant-loop-i l = record {
  chained : Chained l.i (tail_of (arcs_of_network l.rows)) (head_of (arcs_of_network l.rows))
      (at l.chains.first.items) (at l.chains.at_tail.items) (at l.chains.at_head.items);
  events : vec_len l.chains.first ≡ l.events;
  tails : vec_len l.chains.at_tail ≡ length l.rows + 1;
  heads : vec_len l.chains.at_head ≡ length l.rows + 1;
}
