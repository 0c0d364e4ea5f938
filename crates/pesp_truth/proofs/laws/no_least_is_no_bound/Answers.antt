use Rattle.pesp_truth.proofs.NoBound as lemmas
use Rattle.pesp_truth.proofs.laws.no_least_is_no_bound.Goals as goal

pub returns : goal.returns
returns c = lemmas.no_least_is_no_bound
