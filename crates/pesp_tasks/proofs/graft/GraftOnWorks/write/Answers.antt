use Rattle.std.proofs.Common.{inl, inr, refl}
use Rattle.pesp_check.proofs.ReadingLemmas.{told_as}
use Rattle.pesp_tasks.proofs.Causes.{graft}
use Rattle.pesp_tasks.proofs.graft.GraftOnWorks.write.Goals as goal

pub returns-in_err-grafted-clause-cause : goal.returns-in_err-grafted-clause-cause
returns-in_err-grafted-clause-cause g c =
    told_as _ _ _ c.from_residual.ensures.1 (inl c.in_err-grafted.ensures.cause)

pub returns-in_err-print-clause-cause : goal.returns-in_err-print-clause-cause
returns-in_err-print-clause-cause g c =
    let out = c.in_err-print.ensures in
    told_as _ _ _ c.from_residual-in_err-print.ensures.1
    (inr (inl (
      out.fault,
      (refl, refl),
      graft c.in_ok-grafted.grafted.replies.items c.period.ensures.limits.some_period c.in_ok-grafted.ensures.ok
          out.has_text out.text tt,
    )))

pub returns-in_err-print_to-clause-cause : goal.returns-in_err-print_to-clause-cause
returns-in_err-print_to-clause-cause g c =
    let out = c.in_ok-print.ensures in
    told_as _ _ _ c.from_residual-in_err-print_to.ensures.1
    (inr (inr (
      c.in_err-print_to.ensures.fault,
      graft c.deref.result.now c.period.ensures.limits.some_period
          (rw c.deref.ensures.value c.in_ok-grafted.ensures.ok) out.has_text out.text c.in_err-print_to.ensures.text,
    )))

pub returns-clause-ok : goal.returns-clause-ok
returns-clause-ok g c =
    let out = c.in_ok-print.ensures in
    graft c.deref.result.now c.period.ensures.limits.some_period (rw c.deref.ensures.value c.in_ok-grafted.ensures.ok)
    out.has_text out.text c.in_ok-print_to.ensures.text
