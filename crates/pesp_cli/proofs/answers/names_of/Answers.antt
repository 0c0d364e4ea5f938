use Rattle.pesp_check.proofs.ReadingLemmas.{told_as}
use Rattle.pesp_cli.proofs.answers.names_of.Goals as goal

pub returns-in_err-names-in-Some : goal.returns-in_err-names-in-Some
returns-in_err-names-in-Some g c =
    rw c.in-Some.is (told_as _ _ _ c.from_residual.ensures.1 c.in_err-names-in-Some.ensures)
