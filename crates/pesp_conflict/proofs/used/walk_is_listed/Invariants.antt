use Rattle.std.specs.Prelude.{Contains}
use Rattle.pesp_problem.specs.declared.row.SignedRow.{SignedRow}
use Rattle.pesp_conflict.proofs.Numbers.{AllTo}
use Rattle.pesp_conflict.proofs.used.walk_is_listed.Given as goal

abbrev pub invariant-loop-signed : goal.invariant-loop-signed
invariant-loop-signed l = AllTo (λ (s : SignedRow). Contains l.listed s.row) l.walk l.signed-index
