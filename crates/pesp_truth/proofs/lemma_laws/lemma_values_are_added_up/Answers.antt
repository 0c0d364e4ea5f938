use Rattle.pesp_truth.proofs.LemmaLeaves.{excess_at_low, excess_at_high}
use Rattle.pesp_truth.proofs.lemma_laws.lemma_values_are_added_up.Goals as goal

pub returns-clause-low : goal.returns-clause-low
returns-clause-low c = excess_at_low

pub returns-clause-high : goal.returns-clause-high
returns-clause-high c = excess_at_high
