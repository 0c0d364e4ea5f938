use Rattle.pesp_check.proofs.ReadingLemmas.{told_as}
use Rattle.pesp_tasks.proofs.Resumptions.{writes}
use Rattle.pesp_tasks.proofs.resume.write_plainly.Goals as goal

pub returns-in_err-print-clause-cause : goal.returns-in_err-print-clause-cause
returns-in_err-print-clause-cause g c =
    let out = c.in_err-print.ensures in
    told_as _ _ _ c.from_residual-in_err-print.ensures.1 (
      out.fault,
      writes c.in_ok-resumed.resumed.steps_used c.in_ok-resumed.resumed.ending
          c.period.ensures.limits.some_period c.in_ok-resumed.ensures.resumed out.has_text out.text,
    )

pub returns-clause-ok : goal.returns-clause-ok
returns-clause-ok g c =
    let out = c.in_ok-print.ensures in
    writes c.in_ok-resumed.resumed.steps_used c.in_ok-resumed.resumed.ending
    c.period.ensures.limits.some_period c.in_ok-resumed.ensures.resumed out.has_text out.text
