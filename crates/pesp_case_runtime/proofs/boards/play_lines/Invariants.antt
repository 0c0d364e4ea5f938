use Rattle.pesp_tree.specs.Certificates.{IsProblemOf}
use Rattle.pesp_case_runtime.proofs.boards.play_lines.Given as goal

abbrev pub invariant-loop-line : goal.invariant-loop-line
invariant-loop-line l = IsProblemOf l.instance l.board.problem
