use Rattle.pesp_tree.proofs.Adopting.{adopted_is_kept, adopted_is_orderly, later_is_valid}
use Rattle.pesp_tree.proofs.machine_laws.adopted_certificates_are_kept.Goals as goal

pub returns-clause-kept : goal.returns-clause-kept
returns-clause-kept c = adopted_is_kept

pub returns-clause-orderly : goal.returns-clause-orderly
returns-clause-orderly c = adopted_is_orderly

pub returns-clause-valid : goal.returns-clause-valid
returns-clause-valid c = later_is_valid
