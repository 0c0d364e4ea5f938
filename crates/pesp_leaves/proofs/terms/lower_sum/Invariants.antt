use Rattle.std.proofs.Common.{◌≡◌, ◌≤◌, ◌*◌, ◌^◌}
use Rattle.std.specs.Prelude.{◌*ℤ◌, unsigned_abs}
use Rattle.pesp_problem.specs.Sums.{sum_below}
use Rattle.pesp_problem.specs.Arcs.{arc_at}
use Rattle.pesp_problem.specs.Terms.{number_at}
use Rattle.pesp_leaves.proofs.terms.lower_sum.Given as goal

abbrev pub invariant-loop-i : goal.invariant-loop-i
invariant-loop-i l = record {
  is : l.sum ≡ sum_below l.i (λ i. number_at l.flows i *ℤ (arc_at l.arcs i).lower);
  size : unsigned_abs l.sum ≤ l.i * (2 * 10 ^ 30);
}
