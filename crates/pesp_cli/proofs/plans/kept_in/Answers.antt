use Rattle.pesp_check.specs.Devices.{over}
use Rattle.pesp_check.proofs.ReadingLemmas.{told_as}
use Rattle.pesp_cli.proofs.Keeping.{kept, kept_on, stopped_kept_on, refused_kept}
use Rattle.pesp_cli.proofs.plans.kept_in.Goals as goal

pub returns-in_err-shelf-clause-stopped : goal.returns-in_err-shelf-clause-stopped
returns-in_err-shelf-clause-stopped g c =
    told_as _ _ _ c.from_residual.ensures.1 (refused_kept _ _ _ _ _ c.in_err-shelf.ensures.refused)

pub returns-in-Ok-None-clause-answered : goal.returns-in-Ok-None-clause-answered
returns-in-Ok-None-clause-answered g c = kept c.search-answer.result _ _ _ _ _ c.search-answer.ensures.answered

pub returns-in-Ok-Some-clause-answered : goal.returns-in-Ok-Some-clause-answered
returns-in-Ok-Some-clause-answered g c =
    let calls = c.in-Ok-Some.base.calls in
    kept_on c.run_on_standing.result _ _ _ _ (over _ _ calls calls) _ _ c.run_on_standing.ensures.ok c.done-answer.ensures

pub returns-in-Ok-Some-clause-stopped : goal.returns-in-Ok-Some-clause-stopped
returns-in-Ok-Some-clause-stopped g c =
    stopped_kept_on c.run_on_standing.result _ _ _ _ _ _ c.run_on_standing.ensures.cause c.done-answer.ensures

pub returns-in-Err-clause-stopped : goal.returns-in-Err-clause-stopped
returns-in-Err-clause-stopped g c =
    refused_kept _ _ _ _ _ c.in-Err.ensures.refused
