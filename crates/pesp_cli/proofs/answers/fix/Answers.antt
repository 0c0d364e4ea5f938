use Rattle.pesp_check.proofs.ReadingLemmas.{told_as}
use Rattle.pesp_cli.proofs.Ends.{unless_named, with_names}
use Rattle.pesp_cli.proofs.answers.fix.Goals as goal

pub returns-in_err-told-clause-stopped : goal.returns-in_err-told-clause-stopped
returns-in_err-told-clause-stopped g c =
    told_as _ _ _ c.from_residual.ensures.1 (unless_named _ _ _ c.in_err-told.ensures)

pub returns-in_err-refused-clause-stopped : goal.returns-in_err-refused-clause-stopped
returns-in_err-refused-clause-stopped g c =
    told_as _ _ _ c.from_residual-in_err-refused.ensures.1 (with_names _ _ _ c.in_err-refused.ensures.cause)
