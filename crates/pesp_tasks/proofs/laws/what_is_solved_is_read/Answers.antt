use Rattle.pesp_tasks.proofs.Joining.{instance_is_read, certificate_is_read}
use Rattle.pesp_tasks.proofs.laws.what_is_solved_is_read.Goals as goal

pub returns-clause-instance : goal.returns-clause-instance
returns-clause-instance c = instance_is_read

pub returns-clause-certificate : goal.returns-clause-certificate
returns-clause-certificate c = certificate_is_read
