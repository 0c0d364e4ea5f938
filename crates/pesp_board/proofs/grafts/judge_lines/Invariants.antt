use Rattle.std.proofs.Common.{map, drop}
use Rattle.pesp_truth.specs.Trees.{line_of}
use Rattle.pesp_board.proofs.Judged.{AreJudged}
use Rattle.pesp_board.proofs.grafts.judge_lines.Given as goal

abbrev pub invariant-loop-line : goal.invariant-loop-line
invariant-loop-line l = AreJudged l.problem l.worth l.fn.walk (map line_of l.lines)
    (map line_of (drop l.line-index l.lines)) l.walk l.parts.items
