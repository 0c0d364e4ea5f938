use Rattle.pesp_problem.specs.Words.{IsLess}
use Rattle.pesp_domains.proofs.Words.{Shifting}
use Rattle.pesp_domains.proofs.step.keep_shifted.Given as goal

abbrev pub invariant-loop-k : goal.invariant-loop-k
invariant-loop-k l = record {
  shifting : Shifting l.initial.kept l.kept l.wide l.down l.up l.k;
  less : IsLess l.initial.kept l.kept l.changed;
}
