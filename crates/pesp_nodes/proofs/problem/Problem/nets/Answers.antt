use Rattle.std.proofs.Common.{subst, length, All}
use Rattle.pesp_problem.specs.Nets.{AreSmallCounts}
use Rattle.pesp_problem.proofs.Counts.{nets_small}
use Rattle.pesp_nodes.specs.Problems.{ProblemValue}
use Rattle.pesp_nodes.proofs.problem.Problem.nets.Goals as goal

pub returns-clause-each : goal.returns-clause-each
returns-clause-each c =
    let own = c.self.inside in
    let P : ProblemValue → Type 0 = λ p. All (AreSmallCounts (length p.network.rows)) c.deref.result.now in
    subst P c.self.view_is (rw c.deref.ensures.value
    (nets_small (length own.network.rows) own.table.items own.nets.items c.self.invariant.counts))
