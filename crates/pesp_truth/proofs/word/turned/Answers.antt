use Rattle.pesp_truth.proofs.Words.{turned_none, is_turned}
use Rattle.pesp_truth.proofs.word.turned.Goals as goal

pub returns-then-shift-eq0 : goal.returns-then-shift-eq0
returns-then-shift-eq0 c = turned_none c.args.period c.args.shift c.args.set c.if-shift-eq0.true c.requires.set

pub returns : goal.returns
returns c = is_turned c.args.period c.args.shift c.args.set c.below-round.result c.requires.period.1
    c.requires.shift c.requires.set c.below-round.ensures
