use Rattle.pesp_truth.proofs.Shown.{shown_are_true}
use Rattle.pesp_truth.proofs.lemma_laws.shown_lemmas_are_true.Goals as goal

pub returns : goal.returns
returns c = shown_are_true
