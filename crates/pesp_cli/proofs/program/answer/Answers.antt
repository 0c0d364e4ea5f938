use Rattle.std.proofs.Common.{inl, inr}
use Rattle.std.proofs.lemmas.Result.{IfErr-weaker}
use Rattle.pesp_check.proofs.ReadingLemmas.{told_as}
use Rattle.pesp_cli.proofs.Ends.{works_stopped}
use Rattle.pesp_cli.proofs.program.answer.Goals as goal

pub returns-in_err-instance-in-Certificate-clause-stopped : goal.returns-in_err-instance-in-Certificate-clause-stopped
returns-in_err-instance-in-Certificate-clause-stopped g c =
    rw c.in-Certificate.is (told_as _ _ _ c.from_residual-in_err-instance-in-Certificate.ensures.1
    (inl c.in_err-instance-in-Certificate.ensures.stopped))

pub returns-in_ok-instance-in-Certificate-clause-stopped : goal.returns-in_ok-instance-in-Certificate-clause-stopped
returns-in_ok-instance-in-Certificate-clause-stopped g c =
    rw c.in-Certificate.is (IfErr-weaker c.of_certificate.result _ _ (λ fault h. inr (_, h)) c.of_certificate.ensures.stopped)

pub returns-in_err-instance-in-Leaves-clause-stopped : goal.returns-in_err-instance-in-Leaves-clause-stopped
returns-in_err-instance-in-Leaves-clause-stopped g c =
    rw c.in-Leaves.is (told_as _ _ _ c.from_residual-in_err-instance-in-Leaves.ensures.1
    (inl c.in_err-instance-in-Leaves.ensures.stopped))

pub returns-in_ok-instance-in-Leaves-clause-stopped : goal.returns-in_ok-instance-in-Leaves-clause-stopped
returns-in_ok-instance-in-Leaves-clause-stopped g c =
    rw c.in-Leaves.is (IfErr-weaker c.of_leaves.result _ _ (λ fault h. inr (_, h)) c.of_leaves.ensures.stopped)

pub returns-in_err-instance-in-Times-clause-stopped : goal.returns-in_err-instance-in-Times-clause-stopped
returns-in_err-instance-in-Times-clause-stopped g c =
    rw c.in-Times.is (told_as _ _ _ c.from_residual-in_err-instance-in-Times.ensures.1
    (inl c.in_err-instance-in-Times.ensures.stopped))

pub returns-in_ok-instance-in-Times-clause-stopped : goal.returns-in_ok-instance-in-Times-clause-stopped
returns-in_ok-instance-in-Times-clause-stopped g c =
    rw c.in-Times.is (IfErr-weaker c.of_times.result _ _ (λ fault h. inr (_, h)) c.of_times.ensures.stopped)

pub returns-in_err-instance-in-Works-clause-stopped : goal.returns-in_err-instance-in-Works-clause-stopped
returns-in_err-instance-in-Works-clause-stopped g c =
    rw c.in-Works.is (told_as _ _ _ c.from_residual-in_err-instance-in-Works.ensures.1
    (inl c.in_err-instance-in-Works.ensures.stopped))

pub returns-in_err-base-in-Works-clause-stopped : goal.returns-in_err-base-in-Works-clause-stopped
returns-in_err-base-in-Works-clause-stopped g c =
    rw c.in-Works.is (told_as _ _ _ c.from_residual-in_err-base-in-Works.ensures.1
    (inl c.in_err-base-in-Works.ensures.stopped))

pub returns-in_ok-base-in-Works-clause-stopped : goal.returns-in_ok-base-in-Works-clause-stopped
returns-in_ok-base-in-Works-clause-stopped g c =
    rw c.in-Works.is (IfErr-weaker c.of_works.result _ _
    (λ fault h. inr (_, _, works_stopped _ fault _ _ _ _ _ _ _ _ h)) c.of_works.ensures.stopped)
