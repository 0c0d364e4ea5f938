use Rattle.pesp_worker.proofs.Counting.{AreCounted}
use Rattle.pesp_worker.proofs.judged_trees.branches_among.Given as goal

abbrev pub invariant-loop-line : goal.invariant-loop-line
invariant-loop-line l = AreCounted l.most l.lines l.line-index l.count
