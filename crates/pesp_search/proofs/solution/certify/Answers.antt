use Rattle.std.proofs.Common.{subst}
use Rattle.pesp_network.specs.Networks.{KeepsNetLimits}
use Rattle.pesp_nodes.specs.Problems.{ProblemValue}
use Rattle.pesp_search.proofs.Solutions.{is_solved, costs_no_more}
use Rattle.pesp_search.proofs.solution.certify.Goals as goal

pub returns-clause-solved : goal.returns-clause-solved
returns-clause-solved c steps first bound turns =
    is_solved c.args.instance.now c.args.board.now.problem steps c.args.steps_used first c.args.board.now.state
    c.in_ok-certificate.certificate (subst (λ (x : ProblemValue). KeepsNetLimits x.network) c.problem.ensures
    c.keeps_limits.ensures.network) c.requires.of c.requires.frugal bound turns
    c.in_ok-certificate.ensures.content c.in_ok-certificate.ensures.valid

pub returns-clause-improved : goal.returns-clause-improved
returns-clause-improved c times cheap = costs_no_more c.args.instance.now c.args.board.now.problem times
    c.args.board.now.state c.in_ok-certificate.certificate c.rows.ensures.limits c.requires.of
    c.in_ok-certificate.ensures.content c.in_ok-certificate.ensures.valid cheap
