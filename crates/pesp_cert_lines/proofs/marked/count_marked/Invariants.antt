use Rattle.std.proofs.Common.{length}
use Rattle.pesp_cert_lines.proofs.MarkedLoop.{IsJudgedTo}
use Rattle.pesp_cert_lines.proofs.marked.count_marked.Given as goal

abbrev pub invariant-loop-word : goal.invariant-loop-word
invariant-loop-word l = IsJudgedTo l.fn.words l.words l.within l.number

abbrev pub decreases-loop-word : goal.decreases-loop-word
decreases-loop-word l = length l.words
