use Rattle.std.proofs.Common.{inl, inr}
use Rattle.pesp_check.specs.Devices.{over}
use Rattle.pesp_check.proofs.ReadingLemmas.{told_as}
use Rattle.pesp_cli.proofs.Ends.{from_some_times, stopped, stopped_from, reader_left}
use Rattle.pesp_cli.proofs.answers.search.Goals as goal

pub returns-in-None-clause-stopped : goal.returns-in-None-clause-stopped
returns-in-None-clause-stopped g c =
    rw c.in-None.is (stopped c.run_alone.result _ _ c.run_alone.ensures.cause c.done.ensures)

pub returns-in-None-clause-silent : goal.returns-in-None-clause-silent
returns-in-None-clause-silent g c =
    stopped c.run_alone.result _ _ c.run_alone.ensures.silent c.done.ensures

pub returns-in_err-times-in-Some-clause-stopped : goal.returns-in_err-times-in-Some-clause-stopped
returns-in_err-times-in-Some-clause-stopped g c =
    rw c.in-Some.is (told_as _ _ _ c.from_residual.ensures.1 (inl c.in_err-times-in-Some.ensures.stopped))

pub returns-in_ok-times-in-Some-clause-answered : goal.returns-in_ok-times-in-Some-clause-answered
returns-in_ok-times-in-Some-clause-answered g c =
    let times = c.in_ok-times-in-Some.times in
    rw c.in-Some.is (from_some_times c.run_from_times-run.result _ _
    (over _ _ times.calls times.calls) c.run_from_times-run.ensures.ok c.done-in-Some.ensures)

pub returns-in_ok-times-in-Some-clause-stopped : goal.returns-in_ok-times-in-Some-clause-stopped
returns-in_ok-times-in-Some-clause-stopped g c =
    rw c.in-Some.is (stopped_from c.run_from_times-run.result _ _ _ c.run_from_times-run.ensures.cause
    (λ fault h. inr (_, reader_left h)) c.done-in-Some.ensures)

pub returns-in_ok-times-in-Some-clause-silent : goal.returns-in_ok-times-in-Some-clause-silent
returns-in_ok-times-in-Some-clause-silent g c =
    stopped c.run_from_times-run.result _ _ c.run_from_times-run.ensures.silent c.done-in-Some.ensures
