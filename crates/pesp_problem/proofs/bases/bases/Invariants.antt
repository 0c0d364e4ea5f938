use Rattle.std.specs.Prelude.{◌*ℤ◌}
use Rattle.pesp_problem.specs.Walks.{sign}
use Rattle.pesp_problem.specs.Marked.{base}
use Rattle.pesp_problem.proofs.Along.{IsAdded}
use Rattle.pesp_problem.proofs.bases.bases.Given as goal

abbrev pub invariant-loop-s : goal.invariant-loop-s
invariant-loop-s l = IsAdded 1030000 l.walk (λ s. sign s.signed *ℤ base l.arcs l.slacks s) l.s-index l.sum
