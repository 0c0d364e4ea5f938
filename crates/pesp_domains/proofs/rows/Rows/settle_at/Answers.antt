use Rattle.std.proofs.Common.{arith}
use Rattle.std.proofs.lemmas.Grind.{common_steps}
use Rattle.pesp_domains.proofs.rows.Rows.settle_at.Goals as goal

pub visit_waiting-requires-clause-listed : goal.visit_waiting-requires-clause-listed
visit_waiting-requires-clause-listed c = grind (arith, common_steps)
