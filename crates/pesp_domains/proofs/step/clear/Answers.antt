use Rattle.std.proofs.Common.{arith}
use Rattle.pesp_domains.proofs.Words.{cleared}
use Rattle.pesp_domains.proofs.step.clear.Goals as goal

pub returns : goal.returns
returns c = cleared c.loop-word.words c.loop-word.word-index (omega arith) c.loop-word.invariant
