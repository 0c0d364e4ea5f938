use Rattle.std.proofs.Common.{length}
use Rattle.std.specs.Prelude.{◌↔◌}
use Rattle.pesp_truth.specs.Named.{AreNamed}
use Rattle.pesp_leaves.proofs.pairs.are_named.Given as goal

abbrev pub invariant-loop-pair : goal.invariant-loop-pair
invariant-loop-pair g l = AreNamed l.fn.cycles l.fn.others (g.P.Elements.elements l.left)
    ↔ AreNamed l.fn.cycles l.fn.others (g.P.Elements.elements l.fn.pairs)

abbrev pub decreases-loop-pair : goal.decreases-loop-pair
decreases-loop-pair g l = length (g.P.Elements.elements l.left)
