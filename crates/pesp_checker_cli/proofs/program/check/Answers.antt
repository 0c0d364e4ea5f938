use Rattle.pesp_check.specs.Devices.{over}
use Rattle.pesp_checker_cli.proofs.program.check.Goals as goal

pub returns-clause-verdict : goal.returns-clause-verdict
returns-clause-verdict g c = (
  over _ _ c.new-instance.result.calls c.new-instance.result.calls,
  c.in_ok-verdict.verdict,
  c.in_ok-verdict.ensures.ok,
  c.status_of_verdict.ensures,
)
