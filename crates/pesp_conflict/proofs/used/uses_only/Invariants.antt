use Rattle.pesp_truth.specs.Used.{LineUsesOnly}
use Rattle.pesp_conflict.proofs.Numbers.{AllTo}
use Rattle.pesp_conflict.proofs.used.uses_only.Given as goal

abbrev pub invariant-loop-line : goal.invariant-loop-line
invariant-loop-line l = AllTo (LineUsesOnly l.rows l.certificate.cycles l.listed) l.certificate.tree l.line-index
