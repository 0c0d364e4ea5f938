use Rattle.std.proofs.Common.{◌≡◌, ◌-◌, ◌<◌, ◌∙◌, ◌^◌, [], length, FitsSigned, arith, rules, ap, subst, Option, Some, true, pos}
use Rattle.std.specs.Prelude.{ℤ, ◌+ℤ◌, ◌*ℤ◌, unsigned_abs, IfSome}
use Rattle.std.specs.Int.{w64, w128}
use Rattle.std.proofs.lemmas.Int.{ints, to_z-of_z}
use Rattle.std.proofs.lemmas.List.{get_or_default}
use Rattle.pesp_problem.specs.Sums.{scaled}
use Rattle.pesp_problem.specs.Arcs.{over_arcs}
use Rattle.pesp_problem.specs.Walks.{net_count}
use Rattle.pesp_problem.specs.Nodes.{cycle_at}
use Rattle.pesp_problem.specs.Nets.{AreNetCounts, nets_at}
use Rattle.pesp_nodes.specs.Problems.{problem_net}
use Rattle.pesp_nodes.specs.Values.{flow_gain_at}
use Rattle.pesp_nodes.proofs.Rising.{nothing_rises}
use Rattle.pesp_nodes.proofs.Singles.{gains_same, single_is}
use Rattle.pesp_nodes.proofs.Sizes.{value_small}
use Rattle.pesp_nodes.proofs.single.single_value.Goals as goal

pub plus-requires-2 : goal.plus-requires-2
plus-requires-2 c =
    let p = c.args.problem.now in
    let P : Option ℤ → Type 0 = λ o. IfSome o (λ v. unsigned_abs v < 10 ^ 26) in
    let small : unsigned_abs c.args.none < 10 ^ 26 =
    subst P c.requires.none (value_small p c.args.node.now [] true c.keeps_limits.ensures.network
    c.keeps_limits.ensures.table c.slacks.ensures.ends c.requires.node (nothing_rises (length p.table))) in
    let offsets = c.offset_term-offsets.ensures.size in
    let rows = c.gains-rows.ensures.size in
    let offsets_fit : FitsSigned w128 c.offset_term-offsets.result = search rules in
    let rows_fit : FitsSigned w128 c.gains-rows.result = search rules in
    let sum = rw (
      to_z-of_z w128 c.offset_term-offsets.result offsets_fit,
      to_z-of_z w128 c.gains-rows.result rows_fit,
    ) at c.plus.ensures.size in
    let none_fits : FitsSigned w128 c.args.none = search rules in
    let sum_fits : FitsSigned w128 c.plus.result = search rules in
    rw (to_z-of_z w128 c.args.none none_fits, to_z-of_z w128 c.plus.result sum_fits) (omega (arith, small, offsets, rows, sum))

pub returns : goal.returns
returns c =
    let p = c.args.problem.now in
    let pair = c.args.pair.now in
    let place = pair.cycle - 1 in
    let mult_fits : FitsSigned w64 pair.mult = (let one = c.requires.one in omega (arith, ints, one)) in
    let offsets_fit : FitsSigned w128 c.offset_term-offsets.result = search rules in
    let rows_fit : FitsSigned w128 c.gains-rows.result = search rules in
    let none_fits : FitsSigned w128 c.args.none = search rules in
    let sum_fits : FitsSigned w128 c.plus.result = search rules in
    let total_fits : FitsSigned w128 c.plus-2.result = search rules in
    let nets = c.nets.ensures.nets in
    let inside : place < length c.nets.result.now = (let long = nets.long in let names = c.requires.cycle in omega (arith, long, names)) in
    let at : c.counts-counts.result.now ≡ nets_at c.nets.result.now place = c.counts-counts.ensures
    ∙ c.index-nets-place.is ∙ get_or_default c.nets.result.now place c.index-nets-place.result [] inside in
    let here : AreNetCounts (length c.arcs.result.now) (cycle_at p.table place) c.counts-counts.result.now =
    rw (at, c.arcs.ensures.rows) (nets.each place inside) in
    let rows : c.gains-rows.result ≡ over_arcs (problem_net p).arcs
    (λ i. flow_gain_at (problem_net p).arcs c.args.node.now.slacks i
    (pair.mult *ℤ net_count (cycle_at p.table place) i)) =
    c.gains-rows.ensures.value (cycle_at p.table place) here
    ∙ gains_same c.arcs.result.now (problem_net p).arcs c.slacks.result.now c.args.node.now.slacks
    (λ i. pair.mult *ℤ net_count (cycle_at p.table place) i) c.arcs.ensures.arcs c.slacks.ensures.slacks in
    let offsets : c.offset_term-offsets.result
    ≡ pos (problem_net p).period *ℤ scaled pair.mult c.in_ok-left.left.0 c.in_ok-left.left.1 =
    rw (to_z-of_z w64 pair.mult mult_fits, c.period.ensures.period) at c.offset_term-offsets.ensures.value in
    let sum = rw (
      to_z-of_z w128 c.offset_term-offsets.result offsets_fit,
      to_z-of_z w128 c.gains-rows.result rows_fit,
    ) at c.plus.ensures.value in
    let total = rw (to_z-of_z w128 c.args.none none_fits, to_z-of_z w128 c.plus.result sum_fits) at c.plus-2.ensures.value in
    let add : ℤ → ℤ = λ z. c.args.none +ℤ z in
    ap Some (to_z-of_z w128 c.plus-2.result total_fits)
    ∙ single_is (problem_net p) p.table c.args.node.now pair c.in_ok-left.left c.args.none c.offset_term-offsets.result
    c.gains-rows.result c.plus-2.result c.requires.none c.in_ok-left.ensures.value offsets rows
    (total ∙ ap add sum)

pub returns-in_err-left : goal.returns-in_err-left
returns-in_err-left c = search rules

pub gains-rows-requires-clause-one : goal.gains-rows-requires-clause-one
gains-rows-requires-clause-one c = search rules

pub offset_term-offsets-requires-clause-mult : goal.offset_term-offsets-requires-clause-mult
offset_term-offsets-requires-clause-mult c = search rules

pub offset_term-offsets-requires-clause-low : goal.offset_term-offsets-requires-clause-low
offset_term-offsets-requires-clause-low c = search rules

pub offset_term-offsets-requires-clause-high : goal.offset_term-offsets-requires-clause-high
offset_term-offsets-requires-clause-high c = search rules

pub plus-requires : goal.plus-requires
plus-requires c = search rules
