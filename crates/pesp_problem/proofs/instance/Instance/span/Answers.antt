use Rattle.std.proofs.Common.{arith}
use Rattle.std.proofs.lemmas.Grind.{common_steps}
use Rattle.pesp_problem.proofs.instance.Instance.span.Goals as goal

pub returns : goal.returns
returns c = grind (arith, common_steps)
