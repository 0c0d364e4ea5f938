use Rattle.pesp_truth.proofs.Trees as lemmas
use Rattle.pesp_truth.proofs.laws.trees_are_right.Goals as goal

pub returns : goal.returns
returns c = lemmas.trees_are_right
