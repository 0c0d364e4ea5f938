use Rattle.std.proofs.Common.{inr}
use Rattle.pesp_check.proofs.ReadingLemmas.{told_as}
use Rattle.pesp_cli.proofs.Ends.{stopped, stopped_from, without_names}
use Rattle.pesp_cli.proofs.answers.reported.Goals as goal

pub returns-in-None-clause-stopped : goal.returns-in-None-clause-stopped
returns-in-None-clause-stopped g c =
    rw c.in-None.is (stopped c.run_sheet.result _ _ c.run_sheet.ensures.cause c.done.ensures)

pub returns-in-None-clause-silent : goal.returns-in-None-clause-silent
returns-in-None-clause-silent g c =
    stopped c.run_sheet.result _ _ c.run_sheet.ensures.silent c.done.ensures

pub returns-in_err-names-in-Some-clause-stopped : goal.returns-in_err-names-in-Some-clause-stopped
returns-in_err-names-in-Some-clause-stopped g c =
    rw c.in-Some.is (told_as _ _ _ c.from_residual.ensures.1 (without_names _ _ c.in_err-names-in-Some.ensures))

pub returns-in_ok-names-in-Some-clause-stopped : goal.returns-in_ok-names-in-Some-clause-stopped
returns-in_ok-names-in-Some-clause-stopped g c =
    let run = c.run_sheet-in-Some in
    rw c.in-Some.is (stopped_from run.result _ _ _ run.ensures.cause (λ fault h. inr (inr (_, h))) c.done-in-Some.ensures)

pub returns-in_ok-names-in-Some-clause-silent : goal.returns-in_ok-names-in-Some-clause-silent
returns-in_ok-names-in-Some-clause-silent g c =
    stopped c.run_sheet-in-Some.result _ _ c.run_sheet-in-Some.ensures.silent c.done-in-Some.ensures
