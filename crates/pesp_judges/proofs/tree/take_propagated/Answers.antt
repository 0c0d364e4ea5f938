use Rattle.std.proofs.Common.{true≢false, drop, ap, sym, ◌∙◌}
use Rattle.pesp_problem.specs.Arcs.{net_of}
use Rattle.pesp_judges.proofs.Shutting.{shut_none, shut_some}
use Rattle.pesp_judges.proofs.tree.take_propagated.Goals as goal

pub returns-then-shut-clause-verdict : goal.returns-then-shut-clause-verdict
returns-then-shut-clause-verdict c claim walks =
    let shut = c.in_ok-shut.ensures.shut in
    shut_none claim (net_of c.args.walk.now.problem) walks c.args.walk.now.nodes c.leaf.new.self.nodes shut.1
    shut.0 shut.2 ((shut.3 walks).0 c.if-shut.true)
    (c.leaf.ensures.nodes ∙ ap (drop 1) c.in_ok-shut.ensures.nodes)

pub returns-clause-verdict : goal.returns-clause-verdict
returns-clause-verdict c claim walks =
    let shut = c.in_ok-shut.ensures.shut in
    shut_some claim (net_of c.args.walk.now.problem) walks c.args.walk.now.nodes c.leaf.new.self.nodes shut.1
    shut.0 shut.2 c.args.line (λ h. true≢false (sym ((shut.3 walks).1 h) ∙ c.if-shut.false))
