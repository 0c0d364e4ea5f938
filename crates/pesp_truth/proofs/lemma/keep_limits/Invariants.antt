use Rattle.std.proofs.Common.{◌≡◌, ◌≤◌, ◌^◌, drop}
use Rattle.pesp_truth.specs.Limits.{rises_from}
use Rattle.pesp_truth.proofs.lemma.keep_limits.Given as goal

abbrev pub invariant-loop-pair : goal.invariant-loop-pair
invariant-loop-pair l = record {
  rest : rises_from l.least (drop l.pair-index l.weights) ≡ rises_from 1 l.weights;
  small : l.least ≤ 2 ^ 32;
}
