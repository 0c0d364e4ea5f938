use Rattle.std.proofs.Common.{subst}
use Rattle.pesp_conflict.specs.Findings.{IsOpenOver}
use Rattle.pesp_conflict.specs.Insides.{IsDecision}
use Rattle.pesp_conflict.proofs.attempts.try_without.Goals as goal

pub returns-in-Conflict-clause-tried : goal.returns-in-Conflict-clause-tried
returns-in-Conflict-clause-tried g c = c.fewer_of.ensures c.args.instance.now
    ((subst (IsDecision c.args.instance.now c.deref-2.result.now (IsOpenOver c.args.instance.now c.args.steps c.deref-2.result.now)) c.in-Conflict.is c.in_ok-decide.ensures.decided).0)
