use Rattle.pesp_cli.proofs.Ends.{stopped}
use Rattle.pesp_cli.proofs.answers.of_works.Goals as goal

pub returns-in-Graft-clause-stopped : goal.returns-in-Graft-clause-stopped
returns-in-Graft-clause-stopped g c =
    rw c.in-Graft.is (stopped c.run_graft.result _ _ c.run_graft.ensures.cause c.done.ensures)

pub returns-in-Graft-clause-silent : goal.returns-in-Graft-clause-silent
returns-in-Graft-clause-silent g c =
    stopped c.run_graft.result _ _ c.run_graft.ensures.silent c.done.ensures

pub returns-in-GraftSharp-clause-stopped : goal.returns-in-GraftSharp-clause-stopped
returns-in-GraftSharp-clause-stopped g c =
    rw c.in-GraftSharp.is (stopped c.run_on_works.result _ _ c.run_on_works.ensures.cause c.done-in-GraftSharp.ensures)

pub returns-in-GraftSharp-clause-silent : goal.returns-in-GraftSharp-clause-silent
returns-in-GraftSharp-clause-silent g c =
    stopped c.run_on_works.result _ _ c.run_on_works.ensures.silent c.done-in-GraftSharp.ensures
