use Rattle.pesp_tree.specs.Certificates.{IsProblemOf}
use Rattle.pesp_case_runtime.proofs.events.spend.Given as goal

abbrev pub invariant-loop-number : goal.invariant-loop-number
invariant-loop-number l = IsProblemOf l.instance l.board.problem
