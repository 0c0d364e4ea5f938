use Rattle.std.proofs.Common.{arith, FitsSigned, ◌-◌, ◌<◌, ◌∙◌, ap, pos, length, get_or}
use Rattle.std.specs.Prelude.{◌+ℤ◌, ◌*ℤ◌, List}
use Rattle.std.specs.Int.{w64}
use Rattle.std.proofs.lemmas.Int.{ints, to_z-of_z}
use Rattle.pesp_problem.specs.declared.pair.Pair.{Pair}
use Rattle.pesp_problem.specs.declared.nets.NetCount.{NetCount}
use Rattle.pesp_problem.specs.Nets.{count_of}
use Rattle.pesp_problem.specs.Terms.{number_at}
use Rattle.pesp_problem.proofs.Flowing.{nets_read}
use Rattle.pesp_nodes.proofs.LeafValues.{few_pairs, few_all}
use Rattle.pesp_nodes.proofs.Flowing.{made_none, made_more, made_all}
use Rattle.pesp_nodes.proofs.flow.add_flows.Goals as goal

none : Pair
none = record { cycle = 0; mult = pos 0 }

pub loop-pair-init : goal.loop-pair-init
loop-pair-init c = made_none (length c.args.flows.now) c.args.nets.now c.args.pairs.now c.args.flows.now c.requires.zeros

pub add_flow-requires-clause-small : goal.add_flow-requires-clause-small
add_flow-requires-clause-small c i l =
    let few = few_pairs c.args.pairs.now (length c.args.nets.now) c.loop-pair.pair-index none c.requires.pairs c.loop-pair-test.true in
    omega (arith, few, c.requires.few, c.loop-pair.invariant.size i l)

pub loop-pair-preserved : goal.loop-pair-preserved
unfolding none
loop-pair-preserved c =
    let p = get_or c.args.pairs.now c.loop-pair.pair-index none in
    let keeps = c.requires.pairs.each c.loop-pair.pair-index none c.loop-pair-test.true in
    let most = keeps.most in
    let names = keeps.names in
    let fits : FitsSigned w64 p.mult = omega (arith, ints) in
    let at : p.cycle - 1 < length c.args.nets.now = omega (arith, names.0, names.1) in
    let read = nets_read c.args.nets.now (p.cycle - 1) c.counts.result.now c.index-nets-pair.result at
    c.index-nets-pair.is c.counts.ensures in
    let sum = rw (to_z-of_z w64 p.mult fits) at c.add_flow.ensures.sum in
    made_more (length c.add_flow.new.flows) c.args.nets.now c.args.pairs.now c.loop-pair.pair-index none
    c.loop-pair.flows c.add_flow.new.flows c.loop-pair-test.true names
    (λ i l. sum i (omega (arith, c.add_flow.auto.flows))
    ∙ ap (λ (counts : List NetCount). number_at c.loop-pair.flows i +ℤ p.mult *ℤ count_of counts i) read)
    (λ i l. c.add_flow.ensures.size i (omega (arith, c.add_flow.auto.flows)))
    (rw c.add_flow.auto.flows c.loop-pair.invariant)

pub returns-clause-flows : goal.returns-clause-flows
returns-clause-flows c walks nets i l =
    made_all (length c.loop-pair.flows) c.args.nets.now c.args.pairs.now c.loop-pair.pair-index c.loop-pair.flows
    c.loop-pair-test.false c.loop-pair.invariant walks (rw c.loop-pair.auto.flows nets) i l

pub returns-clause-small : goal.returns-clause-small
returns-clause-small c i l =
    let few = few_all c.args.pairs.now (length c.args.nets.now) c.requires.pairs in
    omega (arith, few, c.requires.few, c.loop-pair.auto.pair-index-end, c.loop-pair.invariant.size i l)
