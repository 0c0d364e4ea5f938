use Rattle.std.proofs.Common.{◌≡◌, take, map, List, ℕ}
use Rattle.pesp_problem.specs.declared.arc.Arc.{Arc}
use Rattle.pesp_problem.specs.Arcs.{arc_of}
use Rattle.pesp_judges.proofs.table.root_slacks.Given as goal

abbrev pub invariant-loop-row : goal.invariant-loop-row
invariant-loop-row l = ◌≡◌ {A = List (ℕ × ℕ)} l.slacks.items
    (map (λ (arc : Arc). (0, arc.span)) (map (arc_of l.instance.period) (take l.row-index l.instance.rows)))
