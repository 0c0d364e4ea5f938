use Rattle.std.proofs.Common.{arith, unsigned_abs, FitsSigned, to_z, of_z, get_or, ◌≡◌, ◌≤◌, ◌<◌, ◌+◌, ◌^◌, ◌∙◌, ap, sym, length, refl}
use Rattle.std.proofs.lemmas.Grind.{common_steps}
use Rattle.std.specs.Prelude.{pos, ◌+ℤ◌, ◌*ℤ◌}
use Rattle.std.specs.Int.{w64, w128}
use Rattle.std.proofs.lemmas.Int.{ints, to_z-of_z}
use Rattle.pesp_problem.specs.declared.nets.NetCount.{NetCount}
use Rattle.pesp_problem.specs.Terms.{number_at}
use Rattle.pesp_problem.proofs.Durations.{small_count}
use Rattle.pesp_problem.proofs.Flowing.{added_more, added_small}
use Rattle.pesp_problem.proofs.flows.add_flow.Goals as goal

none : NetCount
none = record { place = 0; count = pos 0 }

pub product-requires-clause-count : goal.product-requires-clause-count
unfolding none
product-requires-clause-count c =
    let count = small_count (length c.args.flows.now) c.args.counts.now c.loop-net.net-index none c.loop-net-test.true c.requires.counts in
    omega (arith, ints)

pub plus-flow-requires : goal.plus-flow-requires
unfolding none
plus-flow-requires c =
    let e = get_or c.args.counts.now c.loop-net.net-index none in
    let place : e.place < length c.loop-net.flows =
    omega (arith, c.requires.counts.0 c.loop-net.net-index none c.loop-net-test.true, c.loop-net.auto.flows) in
    let fits : FitsSigned w64 c.args.mult = omega (arith, ints, c.requires.mult) in
    let so_far = rw (to_z-of_z w64 c.args.mult fits) at (c.loop-net.invariant.sum e.place place) in
    let added = added_small (length c.args.flows.now) c.args.counts.now c.args.mult c.loop-net.net-index e.place
    c.requires.counts c.requires.mult in
    let initial = c.requires.small e.place (omega arith) in
    let size = c.product.ensures.size in
    let small : unsigned_abs (number_at c.loop-net.flows e.place) ≤ 10 ^ 24 + 10 ^ 19 = omega (arith, ints, ap unsigned_abs so_far) in
    omega (arith, ints)

pub loop-net-preserved : goal.loop-net-preserved
unfolding none
loop-net-preserved c =
    let e = get_or c.args.counts.now c.loop-net.net-index none in
    let place : e.place < length c.loop-net.flows =
    omega (arith, c.requires.counts.0 c.loop-net.net-index none c.loop-net-test.true, c.loop-net.auto.flows) in
    let fits : FitsSigned w64 c.args.mult = omega (arith, ints, c.requires.mult) in
    let m = to_z-of_z w64 c.args.mult fits in
    let so_far = rw m at (c.loop-net.invariant.sum e.place place) in
    let added = added_small (length c.args.flows.now) c.args.counts.now c.args.mult c.loop-net.net-index e.place
    c.requires.counts c.requires.mult in
    let initial = c.requires.small e.place (omega arith) in
    let size = c.product.ensures.size in
    let small : unsigned_abs (number_at c.loop-net.flows e.place) ≤ 10 ^ 24 + 10 ^ 19 = omega (arith, ints, ap unsigned_abs so_far) in
    let count = small_count (length c.args.flows.now) c.args.counts.now c.loop-net.net-index none c.loop-net-test.true c.requires.counts in
    let count_fits : FitsSigned w64 e.count = omega (arith, ints) in
    let product = rw (m, to_z-of_z w64 e.count count_fits) at c.product.ensures.value in
    let sum = c.plus-flow.ensures.value in
    let flow_is : to_z w128 (of_z w128 c.plus-flow.result) ≡ number_at c.loop-net.flows e.place +ℤ c.product.result = omega (arith, ints) in
    added_more c.args.counts.now _ c.args.flows.now c.loop-net.flows c.loop-net.net-index e.place none _
    c.loop-net-test.true refl place (flow_is ∙ ap (λ z. number_at c.loop-net.flows e.place +ℤ z)
    (product ∙ ap (λ z. z *ℤ e.count) (sym m))) c.loop-net.invariant

pub returns-clause-size : goal.returns-clause-size
returns-clause-size c i l =
    let fits : FitsSigned w64 c.args.mult = omega (arith, ints, c.requires.mult) in
    let so_far = rw (to_z-of_z w64 c.args.mult fits) at (c.loop-net.invariant.sum i (omega arith)) in
    let added = added_small (length c.args.flows.now) c.args.counts.now c.args.mult c.loop-net.net-index i
    c.requires.counts c.requires.mult in
    omega (arith, ints, ap unsigned_abs so_far)

pub returns-clause-sum : goal.returns-clause-sum
returns-clause-sum c = grind (arith, common_steps)
