use Rattle.std.proofs.Common.{arith, unsigned_abs, to_z, of_z, ◌≡◌, ◌<◌, ◌-◌, ◌∙◌, ap, sym, length, List}
use Rattle.std.specs.Prelude.{◌+ℤ◌, count_by, ◌==◌}
use Rattle.std.specs.Int.{w128}
use Rattle.std.proofs.lemmas.Int.{ints}
use Rattle.pesp_problem.specs.Arcs.{arcs_of}
use Rattle.pesp_problem.specs.declared.nets.NetCount.{NetCount}
use Rattle.pesp_problem.proofs.Flowing.{nets_read}
use Rattle.pesp_leaves.proofs.Flowing.{pairs_apart}
use Rattle.pesp_leaves.proofs.Taking.{flow_sum_small, part_small, left_more, left_all}
use Rattle.pesp_leaves.proofs.flows.take_flows.Goals as goal

pub plus-sum-requires : goal.plus-sum-requires
plus-sum-requires g c =
    let sum = part_small c.args.instance.now c.args.slacks.now c.args.weighted c.args.flows.now c.loop-pair.flows
    (to_z w128 c.loop-pair.sum-bits) c.requires.limits c.requires.slacks c.requires.long
    (c.loop-pair.auto.flows ∙ c.requires.long) c.requires.small c.loop-pair.invariant.small
    c.loop-pair.invariant.sum_is in
    let part = part_small c.args.instance.now c.args.slacks.now c.args.weighted c.loop-pair.flows
    c.take_flow.new.flows c.take_flow.result c.requires.limits c.requires.slacks
    (c.loop-pair.auto.flows ∙ c.requires.long) (c.take_flow.auto.flows ∙ c.loop-pair.auto.flows
    ∙ c.requires.long) c.loop-pair.invariant.small c.take_flow.ensures.small c.take_flow.ensures.sum in
    omega (arith, ints)

pub loop-pair-preserved : goal.loop-pair-preserved
loop-pair-preserved g c =
    let elements = g.P.Elements.elements in
    let p = c.in-Some.pair in
    let exists = (pairs_apart (length c.args.table.now) (elements c.loop-pair.left)
    (elements c.take_next.new.self) p c.in-Some.ensures c.loop-pair.invariant.exist).0 in
    let at : p.cycle - 1 < length c.args.table.now = omega (arith, exists.0) in
    let read = nets_read c.args.table.now (p.cycle - 1) c.counts-counts.result.now c.index-table-pair.result at
    c.index-table-pair.is c.counts-counts.ensures in
    let sum = part_small c.args.instance.now c.args.slacks.now c.args.weighted c.args.flows.now c.loop-pair.flows
    (to_z w128 c.loop-pair.sum-bits) c.requires.limits c.requires.slacks c.requires.long
    (c.loop-pair.auto.flows ∙ c.requires.long) c.requires.small c.loop-pair.invariant.small
    c.loop-pair.invariant.sum_is in
    let part = part_small c.args.instance.now c.args.slacks.now c.args.weighted c.loop-pair.flows
    c.take_flow.new.flows c.take_flow.result c.requires.limits c.requires.slacks
    (c.loop-pair.auto.flows ∙ c.requires.long) (c.take_flow.auto.flows ∙ c.loop-pair.auto.flows
    ∙ c.requires.long) c.loop-pair.invariant.small c.take_flow.ensures.small c.take_flow.ensures.sum in
    let plus = c.plus-sum.ensures.value in
    let e : to_z w128 (of_z w128 c.plus-sum.result) ≡ to_z w128 c.loop-pair.sum-bits +ℤ c.take_flow.result = omega (arith, ints) in
    left_more (arcs_of c.args.instance.now) c.args.slacks.now c.args.weighted c.args.table.now
    (elements c.loop-pair.left) (elements c.take_next.new.self) p c.args.flows.now c.loop-pair.flows _
    c.in-Some.ensures c.loop-pair.invariant
    c.take_flow.new.flows c.take_flow.result _ c.take_flow.auto.flows c.take_flow.ensures.sum e c.take_flow.ensures.small
    (λ i l h. c.take_flow.ensures.taken i l (λ z. h (ap (λ (counts : List NetCount). count_by (λ e. e.place == i) counts) (sym read) ∙ z)))

pub returns-clause-sum : goal.returns-clause-sum
returns-clause-sum g c = (left_all (arcs_of c.args.instance.now) c.args.slacks.now c.args.weighted c.args.table.now
    (g.P.Elements.elements c.loop-pair.left) c.args.flows.now c.loop-pair.flows _ c.in_default.ensures
    c.loop-pair.invariant).0

pub returns-clause-size : goal.returns-clause-size
returns-clause-size g c =
    let is = (left_all (arcs_of c.args.instance.now) c.args.slacks.now c.args.weighted c.args.table.now
    (g.P.Elements.elements c.loop-pair.left) c.args.flows.now c.loop-pair.flows _ c.in_default.ensures
    c.loop-pair.invariant).0 in
    let small = flow_sum_small c.args.instance.now c.args.slacks.now c.args.weighted c.args.flows.now
    c.requires.limits c.requires.slacks c.requires.long c.requires.small in
    omega (arith, ints, ap unsigned_abs is)

pub returns-clause-zeros : goal.returns-clause-zeros
returns-clause-zeros g c = (left_all (arcs_of c.args.instance.now) c.args.slacks.now c.args.weighted
    c.args.table.now (g.P.Elements.elements c.loop-pair.left) c.args.flows.now c.loop-pair.flows _
    c.in_default.ensures c.loop-pair.invariant).1
