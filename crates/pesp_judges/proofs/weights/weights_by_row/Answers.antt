use Rattle.std.proofs.Common.{◌<◌, ◌-◌, ◌∙◌, arith, length, get_or}
use Rattle.std.specs.Prelude.{pos}
use Rattle.std.proofs.lemmas.Int.{ints}
use Rattle.std.proofs.lemmas.List.{get_or_default, length-set}
use Rattle.pesp_problem.specs.declared.pair.Pair.{Pair}
use Rattle.pesp_judges.proofs.Placing.{so_far, weight_here, placed_more, all_small}
use Rattle.pesp_judges.proofs.weights.weights_by_row.Goals as goal

none : Pair
none = record { cycle = 0; mult = pos 0 }

pub sum-next-requires-clause-a : goal.sum-next-requires-clause-a
unfolding none
sum-next-requires-clause-a c =
    let weights = c.args.weights.now in
    let k = c.loop-pair.pair-index in
    let own = c.loop-pair.own.items in
    let inv = c.loop-pair.invariant in
    let e = get_or weights k none in
    let exists = c.requires.rows k none c.loop-pair-test.true in
    let place : e.cycle - 1 < length own = omega (arith, exists, inv.long) in
    let small = so_far weights own k c.requires.limits inv.placed (e.cycle - 1) place in
    let read = c.index.ensures ∙ get_or_default own (e.cycle - 1) c.index.result.now (pos 0) place in
    omega (arith, ints, read, small)

pub loop-pair-preserved : goal.loop-pair-preserved
unfolding none
loop-pair-preserved c =
    let weights = c.args.weights.now in
    let k = c.loop-pair.pair-index in
    let own = c.loop-pair.own.items in
    let inv = c.loop-pair.invariant in
    let e = get_or weights k none in
    let exists = c.requires.rows k none c.loop-pair-test.true in
    let place : e.cycle - 1 < length own = omega (arith, exists, inv.long) in
    let small = so_far weights own k c.requires.limits inv.placed (e.cycle - 1) place in
    let weight = weight_here weights own k c.requires.limits inv.placed none c.loop-pair-test.true in
    let read = c.index.ensures ∙ get_or_default own (e.cycle - 1) c.index.result.now (pos 0) place in
    record {
      placed = placed_more weights own k c.requires.limits inv.placed none c.loop-pair-test.true (e.cycle - 1) _
          (omega (arith, exists)) place (omega (arith, ints, read, small, weight, c.sum-next.ensures));
      long = length-set own (e.cycle - 1) _ ∙ inv.long;
    }

pub returns-clause-small : goal.returns-clause-small
returns-clause-small c i l =
    all_small c.args.weights.now c.loop-pair.own.items c.loop-pair.pair-index c.requires.limits c.loop-pair.invariant.placed i c.loop-pair-test.false l
