use Rattle.std.proofs.Common.{◌≡◌, ◌≤◌, ◌*◌, ◌^◌}
use Rattle.std.specs.Prelude.{unsigned_abs}
use Rattle.pesp_problem.specs.Sums.{sum_below}
use Rattle.pesp_problem.specs.Nodes.{slack_range}
use Rattle.pesp_problem.specs.Rates.{rates_at}
use Rattle.pesp_problem.specs.Terms.{number_at, lesser_excess}
use Rattle.pesp_leaves.specs.Terms.{unit_cost_left}
use Rattle.pesp_leaves.proofs.terms.rows_sum.Given as goal

abbrev pub invariant-loop-i : goal.invariant-loop-i
invariant-loop-i l = record {
  is : l.sum ≡ sum_below l.i (λ i. lesser_excess (unit_cost_left l.scale l.weighted (number_at l.weights i) (number_at l.flows i))
      (slack_range l.slacks i) (rates_at l.rates i));
  size : unsigned_abs l.sum ≤ l.i * (12 * 10 ^ 32);
}
