use Rattle.std.proofs.Common.{arith}
use Rattle.pesp_domains.proofs.Masking.{masked_more}
use Rattle.pesp_domains.proofs.revise.mask_set.Goals as goal

pub loop-k-preserved : goal.loop-k-preserved
loop-k-preserved c = masked_more c.args.set.now c.loop-k.set c.loop-k.k _ (omega arith) c.loop-k.invariant
