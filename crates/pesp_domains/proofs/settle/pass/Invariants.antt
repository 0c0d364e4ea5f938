use Rattle.pesp_domains.specs.Domains.{HaveSizes}
use Rattle.pesp_domains.specs.Visits.{Passed}
use Rattle.pesp_domains.proofs.settle.pass.Given as goal

abbrev pub invariant-loop-row : goal.invariant-loop-row
invariant-loop-row l = record {
  sizes : HaveSizes l.initial.domains.period l.initial.domains.events l.domains;
  passed : Passed l.initial.domains.period l.arcs l.ranges l.line l.row-index l.initial.domains.words
      l.domains.words l.initial.waiting l.waiting;
}
