use Rattle.std.proofs.Common.{inr}
use Rattle.pesp_check.proofs.ReadingLemmas.{told_as}
use Rattle.pesp_report_run.proofs.fixing.run_fix.Goals as goal

pub returns-in_err-refused-clause-cause : goal.returns-in_err-refused-clause-cause
returns-in_err-refused-clause-cause g c =
    told_as _ _ _ c.from_residual-in_err-refused.ensures.1 (inr (
      c.in_ok-instance.instance,
      c.in_ok-instance.ensures.ok,
      inr (c.in_ok-times.times.items, c.in_ok-times.ensures.ok, c.in_err-refused.ensures.cause),
    ))

pub returns-clause-ok : goal.returns-clause-ok
returns-clause-ok g c = (
  c.in_ok-instance.instance,
  c.in_ok-instance.ensures.ok,
  (c.in_ok-times.times.items, (c.in_ok-times.ensures.ok, c.in_ok-times.ensures.times), c.in_ok-refused.ensures.ok),
)
