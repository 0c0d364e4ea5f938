use Rattle.std.proofs.Common.{ℕ, subst}
use Rattle.std.specs.Prelude.{Option, IsSome}
use Rattle.std.proofs.lemmas.Result.{IfErr-weaker}
use Rattle.pesp_tasks.proofs.Resumptions.{cause_weaker}
use Rattle.pesp_cli.proofs.Ends.{stopped_less, verdict_told, verdict_stopped, verdict_silent}
use Rattle.pesp_cli.proofs.answers.of_certificate.Goals as goal

pub returns-in-Check-clause-answered : goal.returns-in-Check-clause-answered
returns-in-Check-clause-answered g c =
    rw c.in-Check.is (verdict_told c.run_check.result _ _ c.run_check.ensures.ok c.judged.ensures)

pub returns-in-Check-clause-stopped : goal.returns-in-Check-clause-stopped
returns-in-Check-clause-stopped g c =
    rw c.in-Check.is (verdict_stopped c.run_check.result _ _ c.run_check.ensures.cause c.judged.ensures)

pub returns-in-Check-clause-silent : goal.returns-in-Check-clause-silent
returns-in-Check-clause-silent g c =
    verdict_silent c.run_check.result _ _ c.run_check.ensures.silent c.judged.ensures

pub returns-in-CheckSharp-clause-answered : goal.returns-in-CheckSharp-clause-answered
returns-in-CheckSharp-clause-answered g c =
    let run = c.run_check_sharp in
    rw c.in-CheckSharp.is (verdict_told run.result _ _ run.ensures.ok c.judged-in-CheckSharp.ensures)

pub returns-in-CheckSharp-clause-stopped : goal.returns-in-CheckSharp-clause-stopped
returns-in-CheckSharp-clause-stopped g c =
    let run = c.run_check_sharp in
    rw c.in-CheckSharp.is (verdict_stopped run.result _ _ run.ensures.cause c.judged-in-CheckSharp.ensures)

pub returns-in-CheckSharp-clause-silent : goal.returns-in-CheckSharp-clause-silent
returns-in-CheckSharp-clause-silent g c =
    let run = c.run_check_sharp in
    verdict_silent run.result _ _ run.ensures.silent c.judged-in-CheckSharp.ensures

pub returns-in-Resume-clause-answered : goal.returns-in-Resume-clause-answered
returns-in-Resume-clause-answered g c =
    let run = c.on_base-in-Resume in
    let seconds = subst (λ (s : Option ℕ). IsSome s) c.new.ensures in
    rw c.in-Resume.is (stopped_less run.result _ _ _ _ _ _ _ (λ ended. seconds ended.0) run.ensures.answered)

pub returns-in-Resume-clause-stopped : goal.returns-in-Resume-clause-stopped
returns-in-Resume-clause-stopped g c =
    let run = c.on_base-in-Resume in
    let seconds = subst (λ (s : Option ℕ). IsSome s) c.new.ensures in
    rw c.in-Resume.is (IfErr-weaker run.result _ _
    (λ fault h. cause_weaker fault _ _ _ _ _ _ (λ ended. seconds ended.0) h) run.ensures.stopped)
