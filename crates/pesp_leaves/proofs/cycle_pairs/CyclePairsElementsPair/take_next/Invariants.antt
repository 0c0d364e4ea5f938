use Rattle.std.proofs.Common.{◌≡◌, length}
use Rattle.pesp_truth.specs.Named.{of_cycles}
use Rattle.pesp_leaves.proofs.cycle_pairs.CyclePairsElementsPair.take_next.Given as goal

abbrev pub invariant-loop-pair : goal.invariant-loop-pair
invariant-loop-pair g l = record {
  same : l.self.cycles ≡ l.fn.self.cycles;
  rest : of_cycles l.fn.self.cycles (g.P.Elements.elements l.left) ≡ of_cycles l.fn.self.cycles (g.P.Elements.elements l.fn.self.pairs);
}

abbrev pub decreases-loop-pair : goal.decreases-loop-pair
decreases-loop-pair g l = length (g.P.Elements.elements l.left)
