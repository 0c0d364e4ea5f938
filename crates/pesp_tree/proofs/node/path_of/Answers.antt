use Rattle.std.proofs.Common.{arith, ◌∙◌}
use Rattle.pesp_tree.proofs.Paths.{node_below, loop_step, loop_within, at_root}
use Rattle.pesp_tree.proofs.node.path_of.Goals as goal

pub loop-at-smaller : goal.loop-at-smaller
loop-at-smaller c = node_below c.args.branchings.now c.loop-at.at _ c.requires.below c.loop-at-test.true c.loop-at.invariant.within

pub loop-at-preserved : goal.loop-at-preserved
loop-at-preserved c = record {
  within = loop_within c.args.branchings.now c.loop-at.at _ c.requires.below c.loop-at-test.true c.loop-at.invariant.within;
  path = loop_step c.args.branchings.now c.args.node c.loop-at.at _ c.side_of.result c.loop-at.path.items
      c.push.new.self.items c.requires.below c.loop-at-test.true c.loop-at.invariant.within c.side_of.ensures
      c.loop-at.invariant.path c.in_ok-push.ensures.items;
}

pub returns : goal.returns
returns c = c.reverse.ensures.items ∙ at_root c.args.branchings.now c.args.node c.loop-at.at c.loop-at.path.items
    c.loop-at.invariant.path (omega (arith, c.loop-at-test.false))
