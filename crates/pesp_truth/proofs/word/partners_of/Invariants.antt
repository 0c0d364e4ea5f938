use Rattle.std.proofs.Common.{◌-◌, ◌≤◌}
use Rattle.pesp_truth.specs.Words.{HavePartners}
use Rattle.pesp_truth.proofs.word.partners_of.Given as goal

abbrev pub invariant-loop-count : goal.invariant-loop-count
invariant-loop-count l = record {
  some : 1 ≤ l.count;
  most : l.count ≤ l.window.count;
  partners : HavePartners l.period l.window.first l.count l.set l.partners;
}

abbrev pub decreases-loop-count : goal.decreases-loop-count
decreases-loop-count l = l.window.count - l.count
