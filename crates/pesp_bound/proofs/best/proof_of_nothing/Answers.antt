use Rattle.std.proofs.Common.{rules}
use Rattle.pesp_bound.proofs.best.proof_of_nothing.Goals as goal

pub returns-then-is_some-clause-decided : goal.returns-then-is_some-clause-decided
returns-then-is_some-clause-decided c = search rules
