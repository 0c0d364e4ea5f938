use Rattle.pesp_tree.proofs.Cancelling.{same_left}
use Rattle.pesp_tree.proofs.queue_laws.the_same_are_left.Goals as goal

pub returns : goal.returns
returns c = same_left
