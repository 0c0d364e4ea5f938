use Rattle.std.proofs.Common.{◌+◌, List, ℕ, sym, subst, arith}
use Rattle.std.proofs.lemmas.Grind.{common_steps}
use Rattle.pesp_turns.proofs.Closings.{AreLeastTo, none_least, more_least_there, all_least}
use Rattle.pesp_turns.proofs.settled_leaf.least_slacks.Goals as goal

pub loop-row-init : goal.loop-row-init
loop-row-init c = subst (λ (xs : List ℕ). AreLeastTo c.args.reduced.now c.args.node.now xs 0)
    (sym c.new-left.ensures.items) (none_least c.args.reduced.now c.args.node.now)

pub loop-row-preserved : goal.loop-row-preserved
loop-row-preserved c =
    subst (λ (xs : List ℕ). AreLeastTo c.args.reduced.now c.args.node.now xs (c.loop-row.row-index + 1)) (sym c.in_ok-push.ensures.items)
    (more_least_there c.args.reduced.now c.args.node.now c.loop-row.left.items c.loop-row.row-index
    c.least_slack.result c.network-2.result.now c.rows-row-items.result.now c.slacks.result.now
    c.loop-row.invariant c.network-2.ensures.network c.rows-row-items.ensures.rows c.slacks.ensures.slacks
    c.rows-row-items.ensures.limits (grind (arith, common_steps)) c.least_slack.ensures.below
    c.least_slack.ensures.same)

pub returns-clause-slacks : goal.returns-clause-slacks
returns-clause-slacks c p s = all_least p c.args.reduced.now c.args.node.now c.loop-row.left.items
    c.loop-row.row-index (grind (arith, common_steps)) c.loop-row.invariant s
