use Rattle.std.proofs.Common.{vec_len, ◌+◌, ◌<◌}
use Rattle.pesp_propagate.specs.Rooted.{roots_of}
use Rattle.pesp_propagate.specs.Lists.{AreListed, IsClimbed}
use Rattle.pesp_propagate.proofs.cuts.list_row.Given as goal

abbrev pub invariant-loop-at : goal.invariant-loop-at
invariant-loop-at l = record {
  inside : (l.at.0 < (vec_len l.rooted.by)) × (l.at.1 < (vec_len l.rooted.by));
  climbed : AreListed (vec_len l.rooted.by) l.arcs (roots_of l.rooted) l.row l.initial.cuts
      → IsClimbed (vec_len l.rooted.by) l.arcs (roots_of l.rooted) l.row l.at.0 l.at.1 l.cuts;
}

abbrev pub decreases-loop-at : goal.decreases-loop-at
decreases-loop-at l = (roots_of l.rooted).depth l.at.0 + (roots_of l.rooted).depth l.at.1
