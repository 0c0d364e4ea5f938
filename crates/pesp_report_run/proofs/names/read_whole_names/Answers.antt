use Rattle.pesp_check.proofs.ReadingLemmas.{told_as}
use Rattle.pesp_report_run.proofs.Causes.{names_cause}
use Rattle.pesp_report_run.proofs.names.read_whole_names.Goals as goal

pub returns-in_err-names-clause-cause : goal.returns-in_err-names-clause-cause
returns-in_err-names-clause-cause g c = told_as _ _ _ c.from_residual-in_err-names.ensures.1 (names_cause _ _ _ _ _)
