use Rattle.pesp_sharp_work.proofs.Keeping.{one_kept}
use Rattle.pesp_sharp_work.proofs.kept_leaves.keep_leaves.Goals as goal

pub loop-leaf-preserved : goal.loop-leaf-preserved
loop-leaf-preserved c = one_kept c.args.jobs.now c.args.until c.args.cost c.args.others.now c.args.leaves.now
    c.loop-leaf.leaf-index c.loop-leaf.invariant c.leaf-item.result c.loop-leaf-test.true c.leaf-item.is
    (c.in-Some.ensures c.args.jobs.now c.args.until c.may_be_worked_on-worked.ensures)
