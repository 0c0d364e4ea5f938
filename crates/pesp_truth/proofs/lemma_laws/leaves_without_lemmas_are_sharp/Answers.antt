use Rattle.pesp_truth.proofs.LemmaLeaves.{value_without_lemmas}
use Rattle.pesp_truth.proofs.lemma_laws.leaves_without_lemmas_are_sharp.Goals as goal

pub returns : goal.returns
returns c = value_without_lemmas
