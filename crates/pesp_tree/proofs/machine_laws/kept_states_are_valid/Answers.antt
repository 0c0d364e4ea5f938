use Rattle.pesp_tree.proofs.Certified.{kept_is_valid}
use Rattle.pesp_tree.proofs.machine_laws.kept_states_are_valid.Goals as goal

pub returns : goal.returns
returns c = kept_is_valid
