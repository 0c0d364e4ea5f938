use Rattle.std.proofs.Common.{subst}
use Rattle.pesp_network.specs.Networks.{KeepsNetLimits}
use Rattle.pesp_nodes.specs.Problems.{ProblemValue, IsSmallTable}
use Rattle.pesp_branching.proofs.Spent.{offers_none}
use Rattle.pesp_branching.proofs.Turns.{offers}
use Rattle.pesp_branching.proofs.offers.offer.Goals as goal

pub returns-clause-worked : goal.returns-clause-worked
returns-clause-worked c used worked =
    let limits = subst (λ (x : ProblemValue). KeepsNetLimits x.network) c.problem.ensures c.keeps_limits.ensures.network in
    let small = subst (λ (x : ProblemValue). IsSmallTable x.table) c.problem.ensures c.keeps_limits.ensures.table in
    offers c.args.board.now.problem used c.args.board.now.state c.offer.new.self.state c.args.times.items
    c.offer.result limits small worked c.offer.ensures.state

pub returns-clause-numbers : goal.returns-clause-numbers
returns-clause-numbers c = offers_none c.args.board.now.problem c.args.board.now.state c.offer.new.self.state
    c.args.times.items c.offer.result c.offer.ensures.state
