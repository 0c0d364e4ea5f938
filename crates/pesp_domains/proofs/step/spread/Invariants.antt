use Rattle.std.proofs.Common.{◌-◌, ◌≤◌}
use Rattle.pesp_domains.specs.Bits.{IsWindow}
use Rattle.pesp_domains.proofs.step.spread.Given as goal

abbrev pub invariant-loop-reach : goal.invariant-loop-reach
invariant-loop-reach l = record {
  window : IsWindow l.initial.words l.words l.reach;
  some : 1 ≤ l.reach;
  most : l.reach ≤ l.count;
}

abbrev pub decreases-loop-reach : goal.decreases-loop-reach
decreases-loop-reach l = l.count - l.reach
