use Rattle.std.proofs.Common.{◌≡◌, ◌∙◌, ◌+◌, to_z, of_z, arith, pos, ap, sym, subst}
use Rattle.std.proofs.lemmas.Grind.{common_steps}
use Rattle.std.specs.Prelude.{ℤ, ◌+ℤ◌}
use Rattle.std.specs.Int.{w128}
use Rattle.std.proofs.lemmas.Int.{ints}
use Rattle.std.proofs.lemmas.List.{take_all}
use Rattle.pesp_problem.specs.declared.nets.NetCount.{NetCount}
use Rattle.pesp_problem.specs.Nets.{sum_of}
use Rattle.pesp_problem.proofs.Durations.{SoFar, so_far_more}
use Rattle.pesp_nodes.proofs.Singles.{term_of, gains_are}
use Rattle.pesp_nodes.proofs.single.gains.Goals as goal

none : NetCount
none = record { place = 0; count = pos 0 }

pub loop-net-preserved : goal.loop-net-preserved
unfolding none
loop-net-preserved c =
    let term = term_of c.args.arcs.now c.args.slacks.now c.args.pair.now.mult in
    let sum : to_z w128 (of_z w128 c.plus-sum.result)
    ≡ to_z w128 c.loop-net.sum-bits +ℤ c.gain_at.result =
    (let value = c.plus-sum.ensures.value in omega (arith, ints)) in
    let n = c.loop-net.net-index in
    let P : ℤ → Type 0 = λ z. SoFar 1030000 term c.args.counts.now (n + 1) z in
    subst P (sym sum)
    (so_far_more 1030000 term c.args.counts.now c.loop-net.net-index none
    (to_z w128 c.loop-net.sum-bits) c.gain_at.result c.loop-net-test.true c.gain_at.ensures.value
    c.gain_at.ensures.size c.loop-net.invariant)

pub returns-clause-value : goal.returns-clause-value
returns-clause-value c walk are =
    let term = term_of c.args.arcs.now c.args.slacks.now c.args.pair.now.mult in
    let all = take_all c.loop-net.net-index c.args.counts.now (let done = c.loop-net-test.false in omega (arith, done)) in
    c.loop-net.invariant.is ∙ ap (sum_of term) all
    ∙ gains_are c.args.arcs.now c.args.slacks.now c.args.pair.now.mult walk c.args.counts.now are

pub gain_at-requires-clause-small : goal.gain_at-requires-clause-small
gain_at-requires-clause-small c = grind (arith, common_steps)

pub plus-sum-requires : goal.plus-sum-requires
plus-sum-requires c = grind (arith, common_steps)

pub returns-clause-size : goal.returns-clause-size
returns-clause-size c = grind (arith, common_steps)
