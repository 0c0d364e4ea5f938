use Rattle.std.proofs.Common.{ℕ, arith, refl, rules, subst, sym}
use Rattle.pesp_problem.specs.ArcLimits.{HaveEnds}
use Rattle.pesp_propagate.specs.Rooted.{roots_of}
use Rattle.pesp_problem.proofs.Spanning.{roots_span}
use Rattle.pesp_simplex.proofs.settle.settle.Goals as goal

pub cost_of-cost-requires-clause-count : goal.cost_of-cost-requires-clause-count
cost_of-cost-requires-clause-count c = rw c.deref.ensures.value c.requires.times.count

pub tree_rows-requires-clause-ends : goal.tree_rows-requires-clause-ends
tree_rows-requires-clause-ends c =
    let rooted = c.if-not-is_rooted.ensures in
    subst (λ (k : ℕ). HaveEnds k c.args.arcs.now) (sym (rooted.lists refl).by) (rooted.trees refl).inside

pub tree_rows-requires-clause-few : goal.tree_rows-requires-clause-few
tree_rows-requires-clause-few c = c.requires.limits.arcs_most

pub is_local-requires-clause-count : goal.is_local-requires-clause-count
is_local-requires-clause-count c = rw c.deref-2.ensures.value c.requires.times.count

pub returns-then-not-is_rooted : goal.returns-then-not-is_rooted
returns-then-not-is_rooted c =
    let cost = rw c.deref.ensures.value at c.cost_of-cost.ensures in
    record {
      timetable = c.requires.times;
      cost = cost;
      never_dearer = omega arith;
      forest = c.requires.other;
      ended = search rules;
    }

pub returns : goal.returns
returns c =
    let cost = rw c.deref.ensures.value at c.cost_of-cost.ensures in
    let trees = c.if-not-is_rooted.ensures.trees refl in
    record {
      timetable = c.requires.times;
      cost = cost;
      never_dearer = omega arith;
      forest = roots_span c.args.events c.args.arcs.now
          (roots_of c.args.rooted.now) c.in_ok-forest.forest.items trees (c.in_ok-forest.ensures c.args.events trees);
      ended = λ e. (let local = c.in_ok-local.ensures
          (c.stop_of.ensures.0 e) c.in_ok-forest.forest.items (c.in_ok-forest.ensures c.args.events trees) in
          rw (sym c.deref-2.ensures.value) local);
    }
