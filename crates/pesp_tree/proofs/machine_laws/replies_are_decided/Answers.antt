use Rattle.pesp_tree.proofs.Replies as lemmas
use Rattle.pesp_tree.proofs.machine_laws.replies_are_decided.Goals as goal

pub returns : goal.returns
returns c = lemmas.replies_are_decided
