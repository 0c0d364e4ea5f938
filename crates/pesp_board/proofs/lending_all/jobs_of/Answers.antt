use Rattle.std.proofs.Common.{arith, refl}
use Rattle.pesp_board.proofs.LentAll.{numbering_more, numbering_all}
use Rattle.pesp_board.proofs.lending_all.jobs_of.Goals as goal

pub loop-node-preserved : goal.loop-node-preserved
loop-node-preserved c = numbering_more c.args.tree.now c.args.nodes.now c.args.first c.loop-node.number
    c.loop-node.node-index c.loop-node.jobs.items c.push.new.self.items _ c.loop-node-test.true
    c.loop-node.invariant refl c.in_ok-path.ensures.path c.in_ok-push.ensures.items

pub returns : goal.returns
returns c =
    let test = c.loop-node-test.false in
    numbering_all c.args.tree.now c.args.nodes.now c.args.first c.loop-node.number c.loop-node.node-index
    c.loop-node.jobs.items (omega (arith, test)) c.loop-node.invariant
