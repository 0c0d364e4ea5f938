use Rattle.std.proofs.Common.{inl, inr}
use Rattle.pesp_check.proofs.ReadingLemmas.{told_as}
use Rattle.pesp_check.proofs.Causes.{certificate_cause, line_cause}
use Rattle.pesp_check.proofs.checker_run.run_check_of.Goals as goal

pub returns-in_err-verdict-clause-cause : goal.returns-in_err-verdict-clause-cause
returns-in_err-verdict-clause-cause g c =
    told_as _ _ _ c.from_residual-in_err-verdict.ensures.1
    (inr (
      c.in_ok-instance.instance,
      c.in_ok-instance.ensures.ok,
      inl (certificate_cause _ _ _ _ _ _ c.in_err-verdict.ensures.fault),
    ))

pub returns-in_err-write_verdict-clause-cause : goal.returns-in_err-write_verdict-clause-cause
returns-in_err-write_verdict-clause-cause g c =
    let checked = c.in_ok-verdict in
    told_as _ _ _ c.from_residual-in_err-write_verdict.ensures.1 (inr (
      c.in_ok-instance.instance,
      c.in_ok-instance.ensures.ok,
      inr (line_cause _ _ _ _ _ c.in_err-write_verdict.ensures.fault
          (λ failed front. (
            failed,
            (
              checked.verdict,
              record { answer = checked.answer; judged = checked.ensures.ok; written = front },
            ),
          ))),
    ))

pub returns-clause-ok : goal.returns-clause-ok
returns-clause-ok g c =
    let checked = c.in_ok-verdict in (
      c.in_ok-instance.instance,
      c.in_ok-instance.ensures.ok,
      record {
        answer = checked.answer;
        judged = checked.ensures.ok;
        written = c.in_ok-write_verdict.ensures.line;
      },
    )
