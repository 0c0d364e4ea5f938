use Rattle.std.proofs.Common.{◌≡◌, ◌+◌, ◌*◌, ◌^◌, ◌∙◌, arith, ap, sym, subst, to_z, of_z, List, length, ℕ}
use Rattle.std.specs.Prelude.{ℤ, ◌+ℤ◌, ◌-ℤ◌}
use Rattle.std.specs.Int.{w128}
use Rattle.pesp_problem.specs.declared.arc.Arc.{Arc}
use Rattle.pesp_problem.specs.Nets.{AreNets}
use Rattle.pesp_problem.specs.Terms.{AreSmallArcs}
use Rattle.pesp_leaves.specs.Ranges.{node_of}
use Rattle.pesp_leaves.proofs.Arcs.{arcs_long}
use Rattle.pesp_leaves.proofs.Summing.{small_arcs}
use Rattle.pesp_leaves.proofs.Kept.{kept, sum_kept, difference_kept}
use Rattle.pesp_leaves.proofs.Worth.{cycle_pairs, others_named, others_limits, lemmas_named, whole_value}
use Rattle.pesp_leaves.proofs.values.value_behind.Goals as goal

pub offset_sum-requires-clause-pairs : goal.offset_sum-requires-clause-pairs
offset_sum-requires-clause-pairs g c = cycle_pairs (length c.args.checker.now.table.now) (length c.args.shown.now.marks.now.walks)
    (length c.args.shown.now.facts.now) _ (g.P.Elements.elements c.args.pairs)
    (ap (λ (n : ℕ). length c.args.checker.now.table.now + n) (ap length c.walks.ensures.value)) c.requires.named c.requires.limits

pub add_flows-requires-clause-pairs : goal.add_flows-requires-clause-pairs
add_flows-requires-clause-pairs g c = cycle_pairs (length c.args.checker.now.table.now) (length c.args.shown.now.marks.now.walks)
    (length c.args.shown.now.facts.now) _ (g.P.Elements.elements c.args.pairs)
    (ap (λ (n : ℕ). length c.args.checker.now.table.now + n) (ap length c.walks.ensures.value)) c.requires.named c.requires.limits

pub add_walks-gains-requires-clause-named : goal.add_walks-gains-requires-clause-named
add_walks-gains-requires-clause-named g c = others_named (length c.args.checker.now.table.now) (length c.args.shown.now.marks.now.walks)
    (length c.args.shown.now.facts.now) _ (g.P.Elements.elements c.args.pairs)
    (ap (λ (n : ℕ). length c.args.checker.now.table.now + n) (ap length c.walks.ensures.value)) c.requires.named

pub add_walks-gains-requires-clause-limits : goal.add_walks-gains-requires-clause-limits
add_walks-gains-requires-clause-limits g c = others_limits _ (g.P.Elements.elements c.args.pairs) c.requires.limits

pub add_lemmas-floors-requires-clause-named : goal.add_lemmas-floors-requires-clause-named
add_lemmas-floors-requires-clause-named g c = lemmas_named (length c.args.checker.now.table.now) (length c.args.shown.now.marks.now.walks)
    (length c.args.shown.now.facts.now) _ (g.P.Elements.elements c.args.pairs)
    (ap (λ (n : ℕ). length c.args.checker.now.table.now + n) (ap length c.walks.ensures.value)) c.requires.named

pub lower_sum-lowers-requires-clause-arcs : goal.lower_sum-lowers-requires-clause-arcs
lower_sum-lowers-requires-clause-arcs g c =
    let P : List Arc → Type 0 = AreSmallArcs in
    subst P (sym c.requires.fits.arcs) (small_arcs c.args.checker.now.instance.now c.in_ok-offsets.ensures.limits)

pub returns-clause-value : goal.returns-clause-value
returns-clause-value g c walks own nets owned =
    let p = c.args.checker.now.instance.now in
    let nets' : AreNets (length c.args.flows.now) walks c.args.checker.now.table.now = rw c.requires.long nets in
    let o = c.in_ok-offsets.ensures.size in
    let l = c.lower_sum-lowers.ensures.size in
    let a = c.add_walks-gains.ensures.size in
    let f = c.add_lemmas-floors.ensures.size in
    let r = c.rows_sum-rows.ensures.size in
    let first = difference_kept c.in_ok-offsets.offsets c.lower_sum-lowers.result c.minus.result (2 * 10 ^ 30) (2 * 10 ^ 35)
    c.minus.ensures.value (omega (arith, o)) l (omega arith) (omega arith) in
    let second = sum_kept c.minus.result c.add_walks-gains.result c.plus.result (3 * 10 ^ 35) (10 ^ 25) c.plus.ensures.value
    (omega (arith, first.1)) a (omega arith) (omega arith) in
    let third = sum_kept c.plus.result c.add_lemmas-floors.result c.plus-2.result (4 * 10 ^ 35) (10 ^ 36) c.plus-2.ensures.value
    (omega (arith, second.1)) f (omega arith) (omega arith) in
    let fourth = sum_kept c.plus-2.result c.rows_sum-rows.result c.plus-3.result (2 * 10 ^ 36) (12 * 10 ^ 37)
    c.plus-3.ensures.value (omega (arith, third.1)) r (omega arith) (omega arith) in
    let e : to_z w128 (of_z w128 c.plus-3.result) ≡ c.in_ok-offsets.offsets -ℤ c.lower_sum-lowers.result
    +ℤ c.add_walks-gains.result +ℤ c.add_lemmas-floors.result +ℤ c.rows_sum-rows.result =
    kept c.plus-3.result (14 * 10 ^ 37) (omega (arith, fourth.1)) (omega arith) ∙ fourth.0
    ∙ ap (λ (z : ℤ). z +ℤ c.rows_sum-rows.result) (third.0 ∙ ap (λ (z : ℤ). z +ℤ c.add_lemmas-floors.result)
    (second.0 ∙ ap (λ (z : ℤ). z +ℤ c.add_walks-gains.result) first.0)) in
    let gains = rw c.deref.ensures.value at c.add_walks-gains.ensures.gains in
    let rates = rw c.deref.ensures.value at c.add_walks-gains.ensures.rates in
    let rows = rw c.deref-2.ensures.value at c.rows_sum-rows.ensures.value in
    let lowers = rw c.requires.fits.arcs at c.lower_sum-lowers.ensures.value in
    whole_value p walks (node_of c.args.ranges.now) c.args.shown.now.marks.now c.args.shown.now.facts.now
    (g.P.Elements.elements c.args.pairs) own c.args.weighted
    (length c.args.checker.now.table.now) _ c.args.scale c.requires.scale
    (ap (λ (n : ℕ). length c.args.checker.now.table.now + n) (ap length c.walks.ensures.value)) nets.long c.args.shown.now.weights.now
    c.add_flows.new.flows c.add_lemmas-floors.new.flows c.add_walks-gains.new.rates c.in_ok-offsets.offsets c.lower_sum-lowers.result
    c.add_walks-gains.result c.add_lemmas-floors.result c.rows_sum-rows.result _
    (record {
      long = c.requires.ranges.slacks.0 ∙ sym (arcs_long p);
      weights_are = λ i l. owned i (omega (arith, l, arcs_long p, c.requires.fits.weights));
      made_are = λ i l. c.add_flows.ensures.flows walks nets' i (omega (arith, l, arcs_long p, c.requires.long));
      flows_are = λ i l. c.add_lemmas-floors.ensures.sum i (omega (arith, l, arcs_long p, c.requires.long, c.add_flows.auto.flows));
      rates_are = λ i flipped l. rates i flipped (omega (arith, l, arcs_long p, c.requires.wide, c.clear.ensures.long));
    })
    (c.in_ok-offsets.ensures.value walks nets) lowers gains c.add_lemmas-floors.ensures.floor rows e
