use Rattle.pesp_leaves.proofs.Collecting.{AreCollected}
use Rattle.pesp_leaves.proofs.nets.take_counts.Given as goal

abbrev pub invariant-loop-place : goal.invariant-loop-place
invariant-loop-place l = AreCollected l.places l.initial.working l.working l.counts.items l.place-index
