use Rattle.std.proofs.Common.{length}
use Rattle.pesp_problem.specs.Arcs.{arcs_of}
use Rattle.pesp_leaves.specs.Nets.{ArePlaces}
use Rattle.pesp_judges.proofs.Following.{IsFollowed, AreCountedTo}
use Rattle.pesp_judges.proofs.walks.follow.Given as goal

abbrev pub invariant-loop-s : goal.invariant-loop-s
invariant-loop-s g l = record {
  way : IsFollowed (arcs_of l.instance) (g.R.Elements.elements l.fn.rows) (g.R.Elements.elements l.left) l.fn.begin l.at l.joined;
  counts : AreCountedTo (g.R.Elements.elements l.fn.rows) (g.R.Elements.elements l.left) l.working;
  places : ArePlaces l.places.items l.working;
}

abbrev pub decreases-loop-s : goal.decreases-loop-s
decreases-loop-s g l = length (g.R.Elements.elements l.left)
