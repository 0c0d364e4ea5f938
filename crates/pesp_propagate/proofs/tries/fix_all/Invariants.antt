use Rattle.pesp_domains.specs.Domains.{HaveSizes}
use Rattle.pesp_propagate.proofs.tries.fix_all.Given as goal

abbrev pub invariant-turns : goal.invariant-turns
invariant-turns l = record {
  sizes : HaveSizes l.rows.period l.rows.events l.domains;
  saved : HaveSizes l.rows.period l.rows.events l.saved;
}
