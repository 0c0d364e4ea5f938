use Rattle.pesp_board.proofs.Versions.{RestDecides}
use Rattle.pesp_board.proofs.certification.version_of.Given as goal

abbrev pub invariant-loop-line : goal.invariant-loop-line
invariant-loop-line l = RestDecides l.lines l.line-index
