use Rattle.std.proofs.Common.{arith}
use Rattle.pesp_domains.proofs.Words.{fills_more, all_zeros}
use Rattle.pesp_domains.proofs.step.fill.Goals as goal

pub loop-k-preserved : goal.loop-k-preserved
loop-k-preserved c = fills_more c.loop-k.set c.args.count c.loop-k.k c.ones-word.result _ (omega arith)
    (omega (arith, c.saturating_sub.ensures)) c.ones-word.ensures.ones c.ones-word.ensures.zeros c.loop-k.invariant

pub returns-clause-ones : goal.returns-clause-ones
returns-clause-ones c = λ d l m. c.loop-k.invariant.ones d (omega arith) l

pub returns-clause-zeros : goal.returns-clause-zeros
returns-clause-zeros c = all_zeros c.loop-k.set c.args.count c.loop-k.k (omega arith) c.loop-k.invariant
