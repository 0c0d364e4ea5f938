use Rattle.std.proofs.Common.{arith, rules, ◌∙◌}
use Rattle.std.proofs.lemmas.Simd.{length-put_chunk}
use Rattle.pesp_domains.proofs.Words.{joins_more, joins_all}
use Rattle.pesp_domains.proofs.Eights.{joins_eight}
use Rattle.pesp_domains.proofs.step.or_ahead.Goals as goal

pub loop-k-preserved : goal.loop-k-preserved
loop-k-preserved c = record {
  joins = joins_eight c.args.words.now c.loop-k.words c.joined_eight-joined.result c.loop-k.k c.args.by
      (omega arith) c.joined_eight-joined.ensures c.loop-k.invariant.joins;
  within = omega (arith, length-put_chunk c.loop-k.k c.loop-k.words c.joined_eight-joined.result);
}

pub rest-preserved : goal.rest-preserved
rest-preserved c = record {
  joins = joins_more c.args.words.now c.rest.words c.rest.k c.args.by c.word_from-more.result
      c.word_from-more.ensures c.rest-test.true c.rest.invariant.joins;
  within = search rules;
}

pub returns : goal.returns
returns c = joins_all c.args.words.now c.rest.words c.rest.k c.args.by (c.rest.auto.words ∙ c.loop-k.auto.words)
    (omega arith) c.rest.invariant.joins
