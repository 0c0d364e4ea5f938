use Rattle.std.proofs.Common.{arith}
use Rattle.std.proofs.lemmas.Grind.{common_steps}
use Rattle.pesp_cert_items.proofs.chunk.first_lf.Goals as goal

pub returns : goal.returns
returns c = grind (arith, common_steps)
