use Rattle.std.proofs.Common.{arith}
use Rattle.pesp_domains.proofs.Words.{laying_more, laying_all}
use Rattle.pesp_domains.proofs.step.lay_twice.Goals as goal

pub loop-k-preserved : goal.loop-k-preserved
loop-k-preserved c =
    laying_more c.args.period c.args.others.now c.args.twice.now c.loop-k.twice c.loop-k.k c.word_from-once.result
    c.word_behind-again.result c.requires.period.0 c.requires.clear (omega arith)
    c.word_from-once.ensures (record {
      above = c.word_behind-again.ensures.above;
      below = c.word_behind-again.ensures.below;
    }) c.loop-k.invariant

pub returns : goal.returns
returns c = laying_all c.args.period c.args.others.now c.args.twice.now c.loop-k.twice c.loop-k.k (omega arith)
    (omega arith) c.loop-k.invariant
