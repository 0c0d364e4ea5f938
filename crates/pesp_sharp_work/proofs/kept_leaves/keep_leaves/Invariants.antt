use Rattle.pesp_sharp_work.proofs.Keeping.{AreKept}
use Rattle.pesp_sharp_work.proofs.kept_leaves.keep_leaves.Given as goal

abbrev pub invariant-loop-leaf : goal.invariant-loop-leaf
invariant-loop-leaf l = AreKept l.jobs l.until l.cost l.others l.leaves l.leaf-index
