use Rattle.pesp_truth.proofs.Choosing as lemmas
use Rattle.pesp_truth.proofs.laws.conflicts_of_parts_are_conflicts.Goals as goal

pub returns : goal.returns
returns c = lemmas.chosen_conflict
