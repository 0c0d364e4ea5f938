use Rattle.pesp_truth.proofs.Choosing as lemmas
use Rattle.pesp_truth.proofs.laws.conflicts_have_no_timetable.Goals as goal

pub returns : goal.returns
returns c = lemmas.conflict_is_none
