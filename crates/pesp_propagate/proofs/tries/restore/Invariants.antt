use Rattle.pesp_domains.specs.Domains.{HaveSizes}
use Rattle.pesp_propagate.proofs.tries.restore.Given as goal

abbrev pub invariant-loop-fixed : goal.invariant-loop-fixed
invariant-loop-fixed l = HaveSizes l.rows.period l.rows.events l.domains
