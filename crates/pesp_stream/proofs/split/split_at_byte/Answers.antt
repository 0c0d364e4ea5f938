use Rattle.pesp_stream.proofs.SplitPieces.{split_none, split_some}
use Rattle.pesp_stream.proofs.split.split_at_byte.Goals as goal

pub returns-in-None-clause-cut : goal.returns-in-None-clause-cut
returns-in-None-clause-cut c = split_none _ c.args.text.now c.in-None.ensures

pub returns-in-Some-clause-cut : goal.returns-in-Some-clause-cut
returns-in-Some-clause-cut c = split_some _ c.args.text.now c.in-Some.at c.in-Some.ensures
