use Rattle.std.proofs.Common.{sym, subst}
use Rattle.pesp_problem.specs.Nodes.{Node, LeavesBoth}
use Rattle.pesp_truth.specs.Trees.{CutExists}
use Rattle.pesp_nodes.specs.Problems.{ProblemValue, problem_net, IsNodeOf}
use Rattle.pesp_branching.specs.Rooms.{IsCounted}
use Rattle.pesp_branching.specs.Settled.{IsSettled}
use Rattle.pesp_turns.proofs.Lent.{cuts_there, node_is}
use Rattle.pesp_turns.proofs.Turned.{large_turn, split_turn}
use Rattle.pesp_turns.proofs.turn.turn_on.Goals as goal

pub node_from-requires : goal.node_from-requires
node_from-requires g c = cuts_there c.args.board.now.problem c.args.known.now.root c.args.board.now.state
    c.args.job.now c.deref.result.now c.requires.known.root c.deref.ensures.value c.requires.lent

pub choose-requires-clause-node : goal.choose-requires-clause-node
choose-requires-clause-node g c = subst (λ (x : ProblemValue). IsNodeOf x c.in_ok-node.node) (sym c.problem.ensures)
    (c.in_ok-node.ensures.node c.args.board.now.problem c.requires.known.node)

pub close_at-requires-clause-at : goal.close_at-requires-clause-at
close_at-requires-clause-at g c = node_is c.args.board.now.problem c.args.known.now.root c.deref.result.now
    c.args.job.now.path.items c.in_ok-node.node c.requires.known.root c.deref.ensures.value c.in_ok-node.ensures.at

pub close_at-requires-clause-node : goal.close_at-requires-clause-node
close_at-requires-clause-node g c = c.in_ok-node.ensures.node c.args.board.now.problem c.requires.known.node

pub close_at-requires-clause-settled : goal.close_at-requires-clause-settled
close_at-requires-clause-settled g c = subst (λ (x : ProblemValue). IsSettled (problem_net x) x.table c.in_ok-node.node)
    c.problem.ensures (rw c.in_default.is at c.choose.ensures.none)

pub split_leaf-requires-clause-split : goal.split_leaf-requires-clause-split
split_leaf-requires-clause-split g c =
    let at = node_is c.args.board.now.problem c.args.known.now.root c.deref.result.now c.args.job.now.path.items
    c.in_ok-node.node c.requires.known.root c.deref.ensures.value c.in_ok-node.ensures.at in
    record {
      lent = c.requires.lent;
      exists = subst (λ (x : ProblemValue). CutExists (problem_net x) x.table c.in-Some.choice.cut) c.problem.ensures c.in-Some.ensures.exists;
      both = subst (λ (n : Node). LeavesBoth n c.in-Some.choice.cut) at c.in-Some.ensures.both;
      counted = subst (λ (x : ProblemValue). IsCounted (problem_net x) x.table c.in-Some.choice.cut) c.problem.ensures c.in-Some.ensures.counted;
    }

pub split_leaf-requires-clause-node : goal.split_leaf-requires-clause-node
split_leaf-requires-clause-node g c = c.in_ok-node.ensures.node c.args.board.now.problem c.requires.known.node

pub split_leaf-requires-clause-at : goal.split_leaf-requires-clause-at
split_leaf-requires-clause-at g c = node_is c.args.board.now.problem c.args.known.now.root c.deref.result.now
    c.args.job.now.path.items c.in_ok-node.node c.requires.known.root c.deref.ensures.value c.in_ok-node.ensures.at

pub returns-then-not-taken-clause-turn : goal.returns-then-not-taken-clause-turn
returns-then-not-taken-clause-turn g c lent = large_turn c.args.board.now.problem c.args.known.now.reduced
    c.args.board.now.state c.split_leaf.new.board.state c.args.job.now lent
    (rw c.if-not-taken.true at c.in_ok-taken.ensures.given)

pub returns-clause-turn : goal.returns-clause-turn
returns-clause-turn g c lent = split_turn c.args.board.now.problem c.split_leaf.new.board.problem
    c.args.known.now.reduced c.args.board.now.state c.split_leaf.new.board.state c.offer_met.new.board.state
    c.args.job.now lent (rw c.if-not-taken.false at c.in_ok-taken.ensures.given) c.in_ok-taken.ensures.problem
    c.in_ok-offer_met.ensures.offers
