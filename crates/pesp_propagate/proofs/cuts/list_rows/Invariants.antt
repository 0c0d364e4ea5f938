use Rattle.std.proofs.Common.{vec_len}
use Rattle.pesp_propagate.specs.Rooted.{roots_of}
use Rattle.pesp_propagate.specs.Lists.{AreListed}
use Rattle.pesp_propagate.proofs.cuts.list_rows.Given as goal

abbrev pub invariant-loop-row : goal.invariant-loop-row
invariant-loop-row l = AreListed (vec_len l.rooted.by) l.arcs (roots_of l.rooted) 0 l.initial.cuts
    → AreListed (vec_len l.rooted.by) l.arcs (roots_of l.rooted) l.row l.cuts
