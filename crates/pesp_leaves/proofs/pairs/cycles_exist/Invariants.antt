use Rattle.std.proofs.Common.{length}
use Rattle.std.specs.Prelude.{All, ◌↔◌}
use Rattle.pesp_problem.specs.declared.pair.Pair.{Pair}
use Rattle.pesp_problem.specs.Walks.{Names}
use Rattle.pesp_leaves.proofs.pairs.cycles_exist.Given as goal

abbrev pub invariant-loop-pair : goal.invariant-loop-pair
invariant-loop-pair g l = All (λ (pair : Pair). Names l.fn.cycles pair.cycle) (g.P.Elements.elements l.left)
    ↔ All (λ (pair : Pair). Names l.fn.cycles pair.cycle) (g.P.Elements.elements l.fn.pairs)

abbrev pub decreases-loop-pair : goal.decreases-loop-pair
decreases-loop-pair g l = length (g.P.Elements.elements l.left)
