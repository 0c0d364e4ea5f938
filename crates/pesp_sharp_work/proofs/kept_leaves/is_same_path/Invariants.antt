use Rattle.pesp_sharp_work.proofs.Keeping.{AreAlike}
use Rattle.pesp_sharp_work.proofs.kept_leaves.is_same_path.Given as goal

abbrev pub invariant-loop-place : goal.invariant-loop-place
invariant-loop-place l = AreAlike l.a l.b l.place
