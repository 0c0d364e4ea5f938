use Rattle.std.proofs.Common.{subst}
use Rattle.pesp_network.specs.Networks.{KeepsNetLimits}
use Rattle.pesp_nodes.specs.Problems.{ProblemValue, IsSmallTable}
use Rattle.pesp_search.proofs.Costs.{ready}
use Rattle.pesp_search.proofs.solution.look_and_offer.Goals as goal

pub returns-clause-ready : goal.returns-clause-ready
returns-clause-ready g c =
    let p = c.args.board.now.problem in
    let limits = subst (λ (x : ProblemValue). KeepsNetLimits x.network) c.problem.ensures c.keeps_limits.ensures.network in
    let small = subst (λ (x : ProblemValue). IsSmallTable x.table) c.problem.ensures c.keeps_limits.ensures.table in
    let root = c.in_ok-look_at_root.ensures in
    let given = c.in_ok-offer_given.ensures in
    let others = c.in_ok-offer_times.ensures in
    ready p c.look_at_root.new.board.problem c.offer_given.new.board.problem c.look_at_root.new.board.state
    c.offer_given.new.board.state c.offer_times.new.board.state c.args.times.now root.problem given.problem
    limits small root.worked root.least given.offered others.offers others.tree (others.worked 0)
