use Rattle.std.proofs.Common.{arith, rules, FitsSigned, to_z, of_z, get_or, ◌≡◌, ◌<◌, ◌∙◌, length, refl}
use Rattle.std.specs.Prelude.{pos, ◌+ℤ◌}
use Rattle.std.specs.Int.{w128}
use Rattle.std.proofs.lemmas.Int.{ints, to_z-of_z}
use Rattle.pesp_problem.specs.Arcs.{arcs_of}
use Rattle.pesp_problem.specs.declared.nets.NetCount.{NetCount}
use Rattle.pesp_problem.specs.Terms.{number_at}
use Rattle.pesp_leaves.proofs.Taking.{part_small, taken_more}
use Rattle.pesp_leaves.proofs.flows.take_flow.Goals as goal

none : NetCount
none = record { place = 0; count = pos 0 }

pub plus-sum-requires : goal.plus-sum-requires
plus-sum-requires c =
    let sum = part_small c.args.instance.now c.args.slacks.now c.args.weighted c.args.flows.now c.loop-net.flows
    (to_z w128 c.loop-net.sum-bits) c.requires.limits c.requires.slacks c.requires.long
    (c.loop-net.auto.flows ∙ c.requires.long) c.requires.small c.loop-net.invariant.small
    c.loop-net.invariant.sum_is in
    let size = c.flow_term.ensures.size in
    omega (arith, ints)

pub loop-net-preserved : goal.loop-net-preserved
unfolding none
loop-net-preserved c =
    let e = get_or c.args.counts.now c.loop-net.net-index none in
    let place : e.place < length c.loop-net.flows =
    omega (arith, c.requires.counts.0 c.loop-net.net-index none c.loop-net-test.true, c.loop-net.auto.flows) in
    let sum = part_small c.args.instance.now c.args.slacks.now c.args.weighted c.args.flows.now c.loop-net.flows
    (to_z w128 c.loop-net.sum-bits) c.requires.limits c.requires.slacks c.requires.long
    (c.loop-net.auto.flows ∙ c.requires.long) c.requires.small c.loop-net.invariant.small
    c.loop-net.invariant.sum_is in
    let size = c.flow_term.ensures.size in
    let fits : FitsSigned w128 c.take-flow.result = search rules in
    let flow : to_z w128 (of_z w128 c.take-flow.result)
    ≡ number_at c.loop-net.flows e.place = to_z-of_z w128 c.take-flow.result fits ∙ c.take-flow.ensures.value in
    let here = rw flow at c.flow_term.ensures.value in
    let plus = c.plus-sum.ensures.value in
    let e' : to_z w128 (of_z w128 c.plus-sum.result) ≡ to_z w128 c.loop-net.sum-bits +ℤ c.flow_term.result = omega (arith, ints) in
    rw c.take-flow.ensures.zero (taken_more (arcs_of c.args.instance.now) c.args.slacks.now c.args.weighted
    c.args.counts.now c.args.flows.now c.loop-net.flows _ c.flow_term.result _ c.loop-net.net-index e.place
    none c.loop-net-test.true refl place here e' c.loop-net.invariant)
