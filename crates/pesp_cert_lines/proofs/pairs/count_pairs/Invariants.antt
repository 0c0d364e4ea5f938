use Rattle.std.proofs.Common.{length}
use Rattle.pesp_cert_lines.proofs.PairLoop.{IsJudgedTo}
use Rattle.pesp_cert_lines.proofs.pairs.count_pairs.Given as goal

abbrev pub invariant-loop-first : goal.invariant-loop-first
invariant-loop-first l = IsJudgedTo l.fn.words l.words l.least l.within l.number

abbrev pub decreases-loop-first : goal.decreases-loop-first
decreases-loop-first l = length l.words
