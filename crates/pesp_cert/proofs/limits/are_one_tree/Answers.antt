use Rattle.std.proofs.Common.{sym, ◌∙◌, arith}
use Rattle.pesp_cert.proofs.LimitLoops.{tree_branch, tree_leaf}
use Rattle.pesp_cert.proofs.limits.are_one_tree.Goals as goal
use Rattle.pesp_cert.proofs.limits.are_one_tree.Goals.{then-is_branch, else-is_branch}

pub loop-line-preserved : goal.loop-line-preserved
loop-line-preserved c = elim c.if-is_branch.branch [
  | then-is_branch w ↦ rw w.needs-is (tree_branch _ c.loop-line.line-index c.loop-line.needs c.line-item.result
      c.loop-line-test.true c.line-item.is (omega arith)
      (sym c.is_branch.ensures ∙ w.if-is_branch.true) c.loop-line.invariant)
  | else-is_branch w ↦ rw w.needs-is (tree_leaf _ c.loop-line.line-index c.loop-line.needs c.line-item.result
      c.loop-line-test.true c.line-item.is (omega arith)
      (sym c.is_branch.ensures ∙ w.if-is_branch.false) c.loop-line.invariant)
]
