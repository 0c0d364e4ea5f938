use Rattle.std.proofs.Common.{◌≡◌, ◌*◌, ◌≤◌, take, sum_by}
use Rattle.pesp_problem.specs.Arcs.{arc_slack}
use Rattle.pesp_problem.proofs.net_times.cost_of.Given as goal

abbrev pub invariant-loop-arc : goal.invariant-loop-arc
invariant-loop-arc l = record {
  sum : l.cost ≡ sum_by (λ arc. arc.weight * arc_slack l.period l.times arc) (take l.arc-index l.arcs);
  small : l.cost ≤ l.arc-index * 9999000000000;
}
