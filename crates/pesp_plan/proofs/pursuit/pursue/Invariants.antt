use Rattle.pesp_plan.proofs.Standing.{IsKept}
use Rattle.pesp_plan.proofs.pursuit.pursue.Given as goal

abbrev pub invariant-loop-piece : goal.invariant-loop-piece
invariant-loop-piece g l = IsKept l.instance l.fn.going l.going (g.H.Shelf.holds l.shelf)
