use Rattle.pesp_branching.proofs.Settled as lemmas
use Rattle.pesp_branching.proofs.room.paths_keep_spans.Goals as goal

pub returns : goal.returns
returns c = lemmas.paths_keep_spans
