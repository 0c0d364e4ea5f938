use Rattle.pesp_truth.proofs.Fronts as lemmas
use Rattle.pesp_truth.proofs.laws.pairs_of_cycles_show_the_same.Goals as goal

pub returns-clause-bound : goal.returns-clause-bound
returns-clause-bound c = lemmas.same_bound

pub returns-clause-lack : goal.returns-clause-lack
returns-clause-lack c = lemmas.same_lack

pub returns-clause-exist : goal.returns-clause-exist
returns-clause-exist c = lemmas.same_pairs
