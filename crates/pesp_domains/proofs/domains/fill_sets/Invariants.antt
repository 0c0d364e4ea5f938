use Rattle.pesp_network.specs.Networks.{net_of_network}
use Rattle.pesp_domains.specs.Filling.{AreFull}
use Rattle.pesp_domains.proofs.domains.fill_sets.Given as goal

abbrev pub invariant-loop-event : goal.invariant-loop-event
invariant-loop-event l = AreFull (net_of_network l.network) l.event l.words
