use Rattle.std.proofs.Common.{arith, unsigned_abs, to_z, of_z, get_or, ◌≡◌, ◌≤◌, ◌<◌, ◌-◌, ◌∙◌, ap, sym, length}
use Rattle.std.specs.Prelude.{pos, ◌+ℤ◌, ◌*ℤ◌}
use Rattle.std.specs.Int.{w64, w128}
use Rattle.std.proofs.lemmas.Int.{ints}
use Rattle.pesp_problem.specs.declared.pair.Pair.{Pair}
use Rattle.pesp_problem.specs.Terms.{number_at}
use Rattle.pesp_leaves.proofs.Adding.{so_far, weight_here, added_more, all_added, all_small}
use Rattle.pesp_leaves.proofs.Kept.{kept_short}
use Rattle.pesp_leaves.proofs.lemmas.add_weights.Goals as goal

none : Pair
none = record { cycle = 0; mult = pos 0 }

pub product-requires-clause-weight : goal.product-requires-clause-weight
unfolding none
product-requires-clause-weight c =
    let m = kept_short c.args.mult c.requires.mult in
    let small = weight_here c.args.weights.now _ c.args.flows.now c.loop-pair.flows c.loop-pair.pair-index c.requires.limits
    (omega (arith, c.requires.mult, ap unsigned_abs m)) c.loop-pair.invariant none c.loop-pair-test.true in
    omega (arith, ints, small)

pub plus-flow-requires : goal.plus-flow-requires
unfolding none
plus-flow-requires c =
    let e = get_or c.args.weights.now c.loop-pair.pair-index none in
    let m = kept_short c.args.mult c.requires.mult in
    let exists = c.requires.rows c.loop-pair.pair-index none c.loop-pair-test.true in
    let place : e.cycle - 1 < length c.loop-pair.flows = omega (arith, exists, c.loop-pair.auto.flows) in
    let first = c.requires.small (e.cycle - 1) (omega (arith, exists)) in
    let so = so_far c.args.weights.now _ c.args.flows.now c.loop-pair.flows c.loop-pair.pair-index c.requires.limits
    (omega (arith, c.requires.mult, ap unsigned_abs m)) c.loop-pair.invariant (e.cycle - 1) place in
    let size = c.product.ensures.size in
    omega (arith, ints, first, so, size)

pub loop-pair-preserved : goal.loop-pair-preserved
unfolding none
loop-pair-preserved c =
    let e = get_or c.args.weights.now c.loop-pair.pair-index none in
    let m = kept_short c.args.mult c.requires.mult in
    let mult : unsigned_abs (to_z w64 (of_z w64 c.args.mult)) ≤ 1000000000000 = omega (arith, c.requires.mult, ap unsigned_abs m) in
    let exists = c.requires.rows c.loop-pair.pair-index none c.loop-pair-test.true in
    let place : e.cycle - 1 < length c.loop-pair.flows = omega (arith, exists, c.loop-pair.auto.flows) in
    let first = c.requires.small (e.cycle - 1) (omega (arith, exists)) in
    let so = so_far c.args.weights.now _ c.args.flows.now c.loop-pair.flows c.loop-pair.pair-index c.requires.limits
    mult c.loop-pair.invariant (e.cycle - 1) place in
    let size = c.product.ensures.size in
    let weight = weight_here c.args.weights.now _ c.args.flows.now c.loop-pair.flows c.loop-pair.pair-index c.requires.limits
    mult c.loop-pair.invariant none c.loop-pair-test.true in
    let product = rw (m, kept_short e.mult weight) at c.product.ensures.value in
    let sum = c.plus-flow.ensures.value in
    let next : to_z w128 (of_z w128 c.plus-flow.result) ≡ number_at c.loop-pair.flows (e.cycle - 1) +ℤ c.product.result =
    omega (arith, ints, first, so, size, sum) in
    added_more c.args.weights.now _ c.args.flows.now c.loop-pair.flows c.loop-pair.pair-index c.requires.limits
    mult c.loop-pair.invariant none c.loop-pair-test.true (e.cycle - 1) _ (omega (arith, exists)) place
    (next ∙ ap (λ z. number_at c.loop-pair.flows (e.cycle - 1) +ℤ z) (product ∙ ap (λ z. z *ℤ e.mult) (sym m)))

pub returns-clause-sum : goal.returns-clause-sum
returns-clause-sum c i l =
    let m = kept_short c.args.mult c.requires.mult in
    let all = all_added c.args.weights.now _ c.args.flows.now c.loop-pair.flows c.loop-pair.pair-index c.requires.limits
    (omega (arith, c.requires.mult, ap unsigned_abs m)) c.loop-pair.invariant i c.loop-pair-test.false
    (omega (arith, l, c.loop-pair.auto.flows)) in
    rw m at all

pub returns-clause-size : goal.returns-clause-size
returns-clause-size c i l =
    let m = kept_short c.args.mult c.requires.mult in
    all_small c.args.weights.now _ c.args.flows.now c.loop-pair.flows c.loop-pair.pair-index c.requires.limits
    (omega (arith, c.requires.mult, ap unsigned_abs m)) c.loop-pair.invariant i c.loop-pair-test.false
    (omega (arith, l, c.loop-pair.auto.flows))
