-- the events that were read have numbers
use Rattle.pesp_network.specs.Networks.{arcs_of_network}
use Rattle.pesp_reduce.specs.Contractions.{IsStanding}
use Rattle.pesp_reduce.proofs.contraction.standing_of.Given as goal

abbrev pub invariant-loop-event : goal.invariant-loop-event
invariant-loop-event l = IsStanding (arcs_of_network l.tree.rows) l.event l.stands.items l.firsts.items
