use Rattle.pesp_truth.proofs.Words.{is_below}
use Rattle.pesp_truth.proofs.word.below.Goals as goal

pub returns : goal.returns
returns c = is_below c.args.period c.args.word c.requires.0 c.requires.1
