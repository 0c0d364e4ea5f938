use Rattle.std.proofs.Common.{inr}
use Rattle.pesp_check.proofs.ReadingLemmas.{told_as}
use Rattle.pesp_report_run.proofs.Causes.{violations_cause, violations_told}
use Rattle.pesp_report_run.proofs.violated.run_violations.Goals as goal

pub returns-in_err-count-clause-cause : goal.returns-in_err-count-clause-cause
returns-in_err-count-clause-cause g c =
    let out = c.in_err-count.ensures in
    told_as _ _ _ c.from_residual-in_err-count.ensures.1 (inr (
      c.in_ok-instance.instance,
      c.in_ok-instance.ensures.ok,
      inr (
        c.in_ok-times.times.items,
        c.in_ok-times.ensures.ok,
        violations_cause _ c.in_ok-instance.instance _ _ _ _ _ _ c.deref.ensures.value c.in_ok-times.ensures.times
            out.refused out.fault out.front,
      ),
    ))

pub returns-clause-ok : goal.returns-clause-ok
returns-clause-ok g c =
    let out = c.in_ok-count.ensures in (
      c.in_ok-instance.instance,
      c.in_ok-instance.ensures.ok,
      (
        c.in_ok-times.times.items,
        (c.in_ok-times.ensures.ok, c.in_ok-times.ensures.times),
        violations_told c.in_ok-instance.instance _ _ _ _ _ _ c.deref.ensures.value out.count out.text,
      ),
    )
