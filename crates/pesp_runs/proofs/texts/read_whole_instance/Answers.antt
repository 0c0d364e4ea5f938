use Rattle.pesp_check.proofs.ReadingLemmas.{told_as}
use Rattle.pesp_runs.proofs.Telling.{instance_cause}
use Rattle.pesp_runs.proofs.texts.read_whole_instance.Goals as goal

pub returns-in_err-instance-clause-cause : goal.returns-in_err-instance-clause-cause
returns-in_err-instance-clause-cause g c =
    told_as _ _ _ c.from_residual.ensures.1 (instance_cause _ _ _ c.in_err-instance.ensures.cause)
