use Rattle.pesp_cert.proofs.LimitLoops.{IsTreeTo}
use Rattle.pesp_cert.proofs.limits.are_one_tree.Given as goal

abbrev pub invariant-loop-line : goal.invariant-loop-line
invariant-loop-line l = IsTreeTo l.lines l.line-index l.needs
