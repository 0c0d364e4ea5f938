use Rattle.pesp_truth.proofs.Words.{is_kept}
use Rattle.pesp_truth.proofs.word.keep.Goals as goal

pub returns-clause-kept : goal.returns-clause-kept
returns-clause-kept c = is_kept c.args.period c.args.event c.args.others c.below.result c.args.words.now
    c.requires.period.1 c.requires.event c.ranges.others.fits c.below.type_inv c.below.ensures
