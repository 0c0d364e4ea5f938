use Rattle.std.proofs.Common.{arith, unsigned_abs, to_z, of_z, ◌≡◌, ◌≤◌, ◌+◌, ◌∙◌, ap, length}
use Rattle.std.specs.Prelude.{pos, ◌+ℤ◌}
use Rattle.std.specs.Int.{w128}
use Rattle.std.proofs.lemmas.Int.{ints}
use Rattle.std.proofs.lemmas.List.{take_all}
use Rattle.pesp_problem.specs.Arcs.{arcs_of}
use Rattle.pesp_problem.specs.declared.nets.NetCount.{NetCount}
use Rattle.pesp_problem.specs.Nets.{sum_of}
use Rattle.pesp_problem.specs.Ranges.{least_term, greatest_term}
use Rattle.pesp_problem.proofs.Durations.{so_far_more, small_sum, least_is, greatest_is}
use Rattle.pesp_leaves.proofs.Arcs.{nets_of_arcs}
use Rattle.pesp_leaves.proofs.offsets.duration_sums.Goals as goal

none : NetCount
none = record { place = 0; count = pos 0 }

pub overflow_add-least : goal.overflow_add-least
unfolding none
overflow_add-least c =
    let small : unsigned_abs (to_z w128 c.loop-net.least-bits) + unsigned_abs c.duration_terms-terms.result.0
    ≤ 10100000000000 = small_sum 1010000 _ (length c.args.instance.now.rows) c.args.counts.now
    c.loop-net.net-index none (to_z w128 c.loop-net.least-bits) c.duration_terms-terms.result.0
    c.loop-net-test.true c.requires.counts c.duration_terms-terms.ensures.least_size
    c.loop-net.invariant.least in
    omega (arith, ints)

pub overflow_add-greatest : goal.overflow_add-greatest
unfolding none
overflow_add-greatest c =
    let small : unsigned_abs (to_z w128 c.loop-net.greatest-bits) + unsigned_abs c.duration_terms-terms.result.1
    ≤ 10100000000000 = small_sum 1010000 _ (length c.args.instance.now.rows) c.args.counts.now
    c.loop-net.net-index none (to_z w128 c.loop-net.greatest-bits) c.duration_terms-terms.result.1
    c.loop-net-test.true c.requires.counts c.duration_terms-terms.ensures.greatest_size
    c.loop-net.invariant.greatest in
    omega (arith, ints)

pub loop-net-preserved : goal.loop-net-preserved
unfolding none
loop-net-preserved c =
    let least : unsigned_abs (to_z w128 c.loop-net.least-bits) + unsigned_abs c.duration_terms-terms.result.0
    ≤ 10100000000000 = small_sum 1010000 _ (length c.args.instance.now.rows) c.args.counts.now
    c.loop-net.net-index none (to_z w128 c.loop-net.least-bits) c.duration_terms-terms.result.0
    c.loop-net-test.true c.requires.counts c.duration_terms-terms.ensures.least_size
    c.loop-net.invariant.least in
    let greatest : unsigned_abs (to_z w128 c.loop-net.greatest-bits) + unsigned_abs c.duration_terms-terms.result.1
    ≤ 10100000000000 = small_sum 1010000 _ (length c.args.instance.now.rows) c.args.counts.now
    c.loop-net.net-index none (to_z w128 c.loop-net.greatest-bits) c.duration_terms-terms.result.1
    c.loop-net-test.true c.requires.counts c.duration_terms-terms.ensures.greatest_size
    c.loop-net.invariant.greatest in
    let e : to_z w128 (of_z w128 (to_z w128 c.loop-net.least-bits
    +ℤ to_z w128 (of_z w128 c.duration_terms-terms.result.0)))
    ≡ to_z w128 c.loop-net.least-bits +ℤ c.duration_terms-terms.result.0 = omega (arith, ints) in
    let f : to_z w128 (of_z w128 (to_z w128 c.loop-net.greatest-bits
    +ℤ to_z w128 (of_z w128 c.duration_terms-terms.result.1)))
    ≡ to_z w128 c.loop-net.greatest-bits +ℤ c.duration_terms-terms.result.1 = omega (arith, ints) in
    record {
      least = rw e (so_far_more 1010000 _ c.args.counts.now c.loop-net.net-index none _ _ c.loop-net-test.true
          c.duration_terms-terms.ensures.least c.duration_terms-terms.ensures.least_size
          c.loop-net.invariant.least);
      greatest = rw f (so_far_more 1010000 _ c.args.counts.now c.loop-net.net-index none _ _ c.loop-net-test.true
          c.duration_terms-terms.ensures.greatest c.duration_terms-terms.ensures.greatest_size
          c.loop-net.invariant.greatest);
    }

pub returns-clause-least : goal.returns-clause-least
returns-clause-least c walk nets =
    c.loop-net.invariant.least.is ∙ ap (sum_of (least_term (arcs_of c.args.instance.now) c.args.slacks.now))
    (take_all c.loop-net.net-index c.args.counts.now c.loop-net-test.false)
    ∙ least_is (arcs_of c.args.instance.now) c.args.slacks.now walk c.args.counts.now
    (nets_of_arcs c.args.instance.now walk c.args.counts.now nets)

pub returns-clause-greatest : goal.returns-clause-greatest
returns-clause-greatest c walk nets =
    c.loop-net.invariant.greatest.is ∙ ap (sum_of (greatest_term (arcs_of c.args.instance.now) c.args.slacks.now))
    (take_all c.loop-net.net-index c.args.counts.now c.loop-net-test.false)
    ∙ greatest_is (arcs_of c.args.instance.now) c.args.slacks.now walk c.args.counts.now
    (nets_of_arcs c.args.instance.now walk c.args.counts.now nets)
