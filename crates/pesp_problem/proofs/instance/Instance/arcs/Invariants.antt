use Rattle.std.proofs.Common.{◌≡◌, take}
use Rattle.std.specs.Prelude.{map}
use Rattle.pesp_problem.specs.Arcs.{arc_of}
use Rattle.pesp_problem.proofs.instance.Instance.arcs.Given as goal

abbrev pub invariant-loop-row : goal.invariant-loop-row
invariant-loop-row l = l.arcs.items ≡ map (arc_of l.period) (take l.row-index l.rows)
