use Rattle.pesp_sharp_search.proofs.Counting.{AreCounted}
use Rattle.pesp_sharp_search.proofs.branches.count_branches.Given as goal

abbrev pub invariant-loop-line : goal.invariant-loop-line
invariant-loop-line l = AreCounted l.lines l.line-index l.count
