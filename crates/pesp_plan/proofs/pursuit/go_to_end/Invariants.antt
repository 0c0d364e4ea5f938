use Rattle.pesp_plan.proofs.Standing.{GoesOn}
use Rattle.pesp_plan.proofs.pursuit.go_to_end.Given as goal

abbrev pub invariant-loop-piece : goal.invariant-loop-piece
invariant-loop-piece g l = GoesOn l.instance l.fn.going l.going
