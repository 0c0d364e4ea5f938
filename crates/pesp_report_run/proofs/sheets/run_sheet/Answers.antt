use Rattle.std.proofs.Common.{inr}
use Rattle.pesp_check.proofs.ReadingLemmas.{told_as}
use Rattle.pesp_report_run.proofs.Causes.{timetable_cause}
use Rattle.pesp_report_run.proofs.sheets.run_sheet.Goals as goal

pub returns-in_err-write-clause-cause : goal.returns-in_err-write-clause-cause
returns-in_err-write-clause-cause g c =
    let out = rw c.deref.ensures.value at c.in_err-write.ensures in
    told_as _ _ _ c.from_residual-in_err-write.ensures.1 (inr (
      c.in_ok-instance.instance,
      c.in_ok-instance.ensures.ok,
      inr (
        c.in_ok-claimed.claimed.times.items,
        c.in_ok-claimed.ensures.ok,
        timetable_cause _ _ _ _ _ c.in_ok-claimed.ensures.times out.refused out.fault out.front,
      ),
    ))

pub returns-clause-ok : goal.returns-clause-ok
returns-clause-ok g c =
    let out = rw c.deref.ensures.value at c.in_ok-write.ensures in
    (c.in_ok-instance.instance, c.in_ok-instance.ensures.ok, (c.in_ok-claimed.claimed.times.items, (c.in_ok-claimed.ensures.ok, out.timetable), out.text))
