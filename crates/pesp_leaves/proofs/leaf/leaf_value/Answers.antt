use Rattle.std.proofs.Common.{ℕ, arith, to_z, of_z, ◌≡◌, ◌∙◌, ap, length, List}
use Rattle.std.specs.Prelude.{◌+ℤ◌}
use Rattle.std.specs.Int.{w128}
use Rattle.std.proofs.lemmas.Int.{ints}
use Rattle.pesp_problem.specs.Arcs.{arcs_of}
use Rattle.pesp_problem.specs.Nets.{AreNets}
use Rattle.pesp_leaves.specs.Flows.{flow_sum}
use Rattle.pesp_leaves.specs.Ranges.{node_of}
use Rattle.pesp_leaves.proofs.Leaves.{value_is}
use Rattle.pesp_leaves.proofs.leaf.leaf_value.Goals as goal

pub plus-requires : goal.plus-requires
plus-requires g c =
    let a = c.take_flows-moved.ensures.size in
    let b = c.idle_part-idle.ensures.size c.args.checker.now.instance.now c.in_ok-offsets.ensures.limits c.requires.ranges in
    omega (arith, ints)

pub plus-requires-2 : goal.plus-requires-2
plus-requires-2 g c =
    let a = c.take_flows-moved.ensures.size in
    let b = c.idle_part-idle.ensures.size c.args.checker.now.instance.now c.in_ok-offsets.ensures.limits c.requires.ranges in
    let o = c.in_ok-offsets.ensures.size in
    let s = c.plus.ensures.size in
    omega (arith, ints)

pub returns-clause-value : goal.returns-clause-value
returns-clause-value g c walks nets =
    let a = c.take_flows-moved.ensures.size in
    let b = c.idle_part-idle.ensures.size c.args.checker.now.instance.now c.in_ok-offsets.ensures.limits c.requires.ranges in
    let o = c.in_ok-offsets.ensures.size in
    let s = c.plus.ensures.value in
    let t = c.plus-2.ensures.value in
    let e : to_z w128 (of_z w128 c.plus-2.result)
    ≡ c.in_ok-offsets.offsets +ℤ (c.take_flows-moved.result +ℤ c.idle_part-idle.result) = omega (arith, ints) in
    let nets' : AreNets (length c.args.working.now) walks c.args.checker.now.table.now = rw c.requires.long nets in
    value_is c.args.checker.now.instance.now walks (node_of c.args.ranges.now)
    (g.P.Elements.elements c.args.pairs) c.args.weighted c.add_flows.new.flows c.in_ok-offsets.offsets
    c.take_flows-moved.result c.idle_part-idle.result _
    (c.add_flows.auto.flows ∙ c.requires.long)
    (λ i l. c.add_flows.ensures.flows walks nets' i (omega (arith, c.add_flows.auto.flows)))
    (c.in_ok-offsets.ensures.value walks nets) (c.take_flows-moved.ensures.sum
    ∙ ap (λ (x : List (ℕ × ℕ)). flow_sum (arcs_of c.args.checker.now.instance.now) x c.args.weighted
    c.add_flows.new.flows) c.deref.ensures.value)
    (c.idle_part-idle.ensures.value c.args.checker.now.instance.now c.requires.ranges) e

pub returns-clause-size : goal.returns-clause-size
returns-clause-size g c =
    let a = c.take_flows-moved.ensures.size in
    let b = c.idle_part-idle.ensures.size c.args.checker.now.instance.now c.in_ok-offsets.ensures.limits c.requires.ranges in
    let o = c.in_ok-offsets.ensures.size in
    let s = c.plus.ensures.size in
    let t = c.plus-2.ensures.size in
    omega (arith, ints)
