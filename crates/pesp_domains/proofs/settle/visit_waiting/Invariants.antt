use Rattle.std.proofs.Common.{◌+◌, min, sum, vec_len}
use Rattle.pesp_domains.specs.Domains.{HaveSizes}
use Rattle.pesp_domains.proofs.Visiting.{Settling}
use Rattle.pesp_domains.proofs.settle.visit_waiting.Given as goal

abbrev pub invariant-passes : goal.invariant-passes
invariant-passes l = record {
  sizes : HaveSizes l.initial.domains.period l.initial.domains.events l.domains;
  settling : Settling l.initial.domains.period l.arcs l.ranges l.initial.domains.words l.domains.words l.initial.waiting l.waiting;
}

abbrev pub decreases-passes : goal.decreases-passes
decreases-passes l = sum l.domains.words + min 1 (vec_len l.waiting.rows)
