use Rattle.std.proofs.Common.{◌≡◌, get_or, length, pos, FitsSigned, to_z, of_z, arith, rules}
use Rattle.std.proofs.lemmas.Grind.{common_steps}
use Rattle.std.specs.Prelude.{◌*ℤ◌, ◌+ℤ◌}
use Rattle.std.specs.Int.{w64, w128}
use Rattle.std.proofs.lemmas.Int.{ints, to_z-of_z}
use Rattle.pesp_problem.specs.declared.pair.Pair.{Pair}
use Rattle.pesp_problem.specs.Sums.{scaled}
use Rattle.pesp_nodes.specs.Problems.{problem_net}
use Rattle.pesp_nodes.proofs.LeafValues.{few_pairs, few_all, offset_sum_more}
use Rattle.pesp_nodes.proofs.value.offset_sum.Goals as goal

none : Pair
none = record { cycle = 0; mult = pos 0 }

pub plus-sum-requires : goal.plus-sum-requires
plus-sum-requires c =
    let few = few_pairs c.args.pairs.now (length c.args.problem.now.table) c.loop-pair.pair-index none
    c.requires.pairs c.loop-pair-test.true in
    let most = c.requires.few in
    let size = c.loop-pair.invariant.size in
    let here = c.offset_term.ensures.size in
    let fits : FitsSigned w128 c.offset_term.result = search rules in
    rw (to_z-of_z w128 c.offset_term.result fits) (omega arith)

pub loop-pair-preserved : goal.loop-pair-preserved
unfolding none
loop-pair-preserved c =
    let p = get_or c.args.pairs.now c.loop-pair.pair-index none in
    let keeps = c.requires.pairs.each c.loop-pair.pair-index none c.loop-pair-test.true in
    let mult_most = keeps.most in
    let mult_fits : FitsSigned w64 p.mult = omega (arith, ints) in
    let few = few_pairs c.args.pairs.now (length c.args.problem.now.table) c.loop-pair.pair-index none
    c.requires.pairs c.loop-pair-test.true in
    let most = c.requires.few in
    let size = c.loop-pair.invariant.size in
    let here_size = c.offset_term.ensures.size in
    let fits : FitsSigned w128 c.offset_term.result = search rules in
    let here : c.offset_term.result ≡ pos c.args.problem.now.network.period
    *ℤ scaled p.mult c.in_ok-left.left.0 c.in_ok-left.left.1 =
    rw (to_z-of_z w64 p.mult mult_fits, c.period.ensures.period) at c.offset_term.ensures.value in
    let sum : to_z w128 (of_z w128 c.plus-sum.result)
    ≡ to_z w128 c.loop-pair.sum-bits +ℤ c.offset_term.result =
    (let value = c.plus-sum.ensures.value in omega (arith, ints)) in
    offset_sum_more (problem_net c.args.problem.now) c.args.problem.now.table c.args.node.now c.args.pairs.now
    c.loop-pair.pair-index none c.in_ok-left.left
    (to_z w128 c.loop-pair.sum-bits) c.offset_term.result _ c.loop-pair-test.true c.in_ok-left.ensures.value
    here here_size sum c.loop-pair.invariant

pub returns-clause-size : goal.returns-clause-size
returns-clause-size c =
    let few = few_all c.args.pairs.now (length c.args.problem.now.table) c.requires.pairs in
    let most = c.requires.few in
    let size = c.loop-pair.invariant.size in
    let end = c.loop-pair.auto.pair-index-end in
    omega arith

pub returns-in_err-left-clause-value : goal.returns-in_err-left-clause-value
returns-in_err-left-clause-value c = grind (arith, common_steps)

pub returns-clause-value : goal.returns-clause-value
returns-clause-value c = grind (arith, common_steps)
