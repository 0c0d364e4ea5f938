use Rattle.pesp_check.proofs.ReadingLemmas.{told_as}
use Rattle.pesp_runs.proofs.Telling.{times_cause}
use Rattle.pesp_report_run.proofs.claimed.read_claimed.Goals as goal

pub returns-in_err-times-clause-cause : goal.returns-in_err-times-clause-cause
returns-in_err-times-clause-cause g c =
    let refused = rw c.deref.ensures.value at c.in_err-times.ensures.refused in
    told_as _ _ _ c.from_residual-in_err-times.ensures.1 (times_cause _ _ _ _ _ _ _ c.in_ok-text.ensures.ok refused)

pub returns-clause-ok : goal.returns-clause-ok
returns-clause-ok g c =
    let exact = rw c.deref.ensures.value at c.in_ok-times.ensures.exact in
    record { text = c.in_ok-text.text.items; read = c.in_ok-text.ensures.ok; holds = exact }
