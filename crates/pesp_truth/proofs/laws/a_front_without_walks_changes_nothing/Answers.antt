use Rattle.pesp_truth.proofs.Fronts as lemmas
use Rattle.pesp_truth.proofs.laws.a_front_without_walks_changes_nothing.Goals as goal

pub returns : goal.returns
returns c = lemmas.without_walks
