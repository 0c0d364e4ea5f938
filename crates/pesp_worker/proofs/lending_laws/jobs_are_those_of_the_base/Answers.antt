use Rattle.pesp_worker.proofs.OneLending.{one_lending}
use Rattle.pesp_worker.proofs.lending_laws.jobs_are_those_of_the_base.Goals as goal

pub returns : goal.returns
returns c = one_lending
