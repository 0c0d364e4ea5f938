use Rattle.std.proofs.Common.{◌≡◌, ◌≤◌, arith, rules, unsigned_abs, FitsSigned, to_z, of_z, get_or, ◌*ℤ◌, ◌+ℤ◌, pos}
use Rattle.std.proofs.lemmas.Grind.{common_steps}
use Rattle.std.specs.Int.{w64, w128}
use Rattle.std.proofs.lemmas.Int.{ints}
use Rattle.pesp_nodes.specs.declared.passages.Passage.{Passage}
use Rattle.pesp_nodes.specs.Passages.{mult_of}
use Rattle.pesp_nodes.proofs.Flows.{flow_small, flow_more, count_small}
use Rattle.pesp_nodes.proofs.flow.flow_on.Goals as goal

none : Passage
none = record { cycle = 0; count = pos 0 }

here : (c : goal.After-times) → c.times.result
    ≡ mult_of c.args.pairs.now (get_or c.args.passages.now c.loop-passage.passage-index none).cycle
    *ℤ (get_or c.args.passages.now c.loop-passage.passage-index none).count
unfolding none
here c =
    let count = count_small c.args.passages.now c.loop-passage.passage-index none c.loop-passage-test.true c.requires.small in
    let fits : FitsSigned w64 (get_or c.args.passages.now c.loop-passage.passage-index none).count = omega (arith, ints) in
    let mult_fits : FitsSigned w64 c.mult_of-mult.result = search rules in
    let mult : to_z w128 (of_z w128 c.from.result) ≡ c.mult_of-mult.result = omega (arith, ints) in
    let wide : to_z w128 (of_z w128 c.from-in-loop-passage.result)
    ≡ (get_or c.args.passages.now c.loop-passage.passage-index none).count = omega (arith, ints) in
    rw (← c.mult_of-mult.ensures.value) (rw (mult, wide) at c.times.ensures.value)

small : (c : goal.After-times) → unsigned_abs (mult_of c.args.pairs.now
    (get_or c.args.passages.now c.loop-passage.passage-index none).cycle) ≤ 1000000000000
unfolding none
small c = rw (← c.mult_of-mult.ensures.value) c.mult_of-mult.ensures.size

pub plus-flow-requires : goal.plus-flow-requires
plus-flow-requires c =
    let most = flow_small c.args.pairs.now c.args.passages.now c.loop-passage.passage-index none
    (to_z w128 c.loop-passage.flow-bits) c.times.result c.loop-passage-test.true (here c)
    (small c) c.requires.small c.loop-passage.invariant in
    omega (arith, ints)

pub loop-passage-preserved : goal.loop-passage-preserved
loop-passage-preserved c =
    let most = flow_small c.args.pairs.now c.args.passages.now c.loop-passage.passage-index none
    (to_z w128 c.loop-passage.flow-bits) c.times.result c.loop-passage-test.true (here c.before)
    (small c.before) c.requires.small c.loop-passage.invariant in
    let sum : to_z w128 (of_z w128 c.plus-flow.result)
    ≡ to_z w128 c.loop-passage.flow-bits +ℤ c.times.result =
    (let value = c.plus-flow.ensures.value in omega (arith, ints)) in
    rw sum (flow_more c.args.pairs.now c.args.passages.now c.loop-passage.passage-index none
    (to_z w128 c.loop-passage.flow-bits) c.times.result c.loop-passage-test.true (here c.before)
    (small c.before) c.loop-passage.invariant)

pub returns-clause-value : goal.returns-clause-value
returns-clause-value c = grind (arith, common_steps)

pub returns-clause-size : goal.returns-clause-size
returns-clause-size c = grind (arith, common_steps)
