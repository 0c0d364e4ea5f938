use Rattle.std.proofs.Common.{inr}
use Rattle.pesp_check.proofs.ReadingLemmas.{told_as}
use Rattle.pesp_plan.proofs.Standing.{writes_plan}
use Rattle.pesp_plan.proofs.plan.PlanSearch.write.Goals as goal

pub returns-in_err-written-clause-cause : goal.returns-in_err-written-clause-cause
returns-in_err-written-clause-cause g c =
    let begun = c.in_ok-going in
    let out = c.in_err-written.ensures in
    told_as _ _ _ c.from_residual-in_err-written.ensures.1
    (inr (
      out.fault,
      writes_plan c.args.instance.now c.args.times.now begun.going c.finish-written.new.going begun.ensures.improved
          out.no_worse out.valid out.is_true out.has_text out.text,
    ))
