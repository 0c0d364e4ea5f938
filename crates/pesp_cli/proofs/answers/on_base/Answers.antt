use Rattle.pesp_cli.proofs.Ends.{stopped}
use Rattle.pesp_cli.proofs.answers.on_base.Goals as goal

pub returns-clause-stopped : goal.returns-clause-stopped
returns-clause-stopped g c = stopped c.run_on_base.result _ _ c.run_on_base.ensures.cause c.done.ensures

pub returns-clause-silent : goal.returns-clause-silent
returns-clause-silent g c = stopped c.run_on_base.result _ _ c.run_on_base.ensures.silent c.done.ensures
