use Rattle.std.proofs.Common.{arith}
use Rattle.pesp_domains.proofs.Words.{shifting_more, shifting_all, less_more}
use Rattle.pesp_domains.proofs.step.keep_shifted.Goals as goal

pub loop-k-preserved : goal.loop-k-preserved
loop-k-preserved c = record {
  shifting = shifting_more c.args.kept.now c.loop-k.kept c.args.wide.now c.args.down c.args.up c.loop-k.k
      c.word_from-below.result c.word_behind-above.result (omega arith)
      c.word_from-below.ensures (record {
        above = c.word_behind-above.ensures.above;
        below = c.word_behind-above.ensures.below;
      }) c.loop-k.invariant.shifting;
  less = less_more c.args.kept.now c.loop-k.kept c.loop-k.k _ c.loop-k.changed (omega arith) c.loop-k.invariant.less;
}

pub returns-clause-shifted : goal.returns-clause-shifted
returns-clause-shifted c = shifting_all c.args.kept.now c.loop-k.kept c.args.wide.now c.args.down c.args.up
    c.loop-k.k c.loop-k.auto.kept (omega arith) c.loop-k.invariant.shifting
