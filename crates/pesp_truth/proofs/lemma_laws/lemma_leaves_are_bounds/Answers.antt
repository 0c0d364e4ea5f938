use Rattle.pesp_truth.proofs.LemmaLeaves.{value_is_bound, bound_is_bound}
use Rattle.pesp_truth.proofs.lemma_laws.lemma_leaves_are_bounds.Goals as goal

pub returns-clause-value : goal.returns-clause-value
returns-clause-value c = value_is_bound

pub returns-clause-rounded : goal.returns-clause-rounded
returns-clause-rounded c = bound_is_bound
