use Rattle.std.proofs.Common.{◌≡◌, ◌<◌, ◌-◌, ap, sym, subst, ◌∙◌, arith, List, [], length, FitsSigned}
use Rattle.std.specs.Prelude.{◌+ℤ◌}
use Rattle.std.specs.Int.{w64}
use Rattle.std.proofs.lemmas.Int.{ints, to_z-of_z}
use Rattle.std.proofs.lemmas.List.{get_or_default}
use Rattle.pesp_problem.specs.declared.arc.Arc.{Arc}
use Rattle.pesp_problem.specs.Rates.{rates_at, rate_of}
use Rattle.pesp_problem.specs.Terms.{AreSmallArcs}
use Rattle.pesp_truth.specs.Named.{walk_at}
use Rattle.pesp_leaves.proofs.Summing.{small_arcs, walk_added}
use Rattle.pesp_leaves.proofs.gains.add_pair.Goals as goal

pub add_walk-requires-clause-arcs : goal.add_walk-requires-clause-arcs
add_walk-requires-clause-arcs c =
    let P : List Arc → Type 0 = AreSmallArcs in
    subst P (sym c.requires.fits.arcs) (small_arcs c.args.checker.now.instance.now c.period-period.ensures.limits)

pub returns-clause-sum : goal.returns-clause-sum
returns-clause-sum c i flipped l =
    let walks = c.args.shown.now.marks.now.walks in
    let cycles = length c.args.checker.now.table.now in
    let above : cycles < c.args.pair.cycle = omega (arith, c.if-number-cycles.false) in
    let inside : c.args.pair.cycle - cycles - 1 < length walks = omega (arith, c.requires.named.0, above) in
    let read = rw c.walks.ensures.value at c.index-walks-number.is in
    let rows : c.rows.result.now ≡ walk_at walks (c.args.pair.cycle - cycles - 1) = c.rows.ensures ∙ read
    ∙ get_or_default walks (c.args.pair.cycle - cycles - 1) c.index-walks-number.result [] inside in
    let fits : FitsSigned w64 c.args.pair.mult = omega (arith, ints, c.requires.mult) in
    let added = rw (to_z-of_z w64 c.args.pair.mult fits) at (c.add_walk.ensures.sum i flipped l) in
    added ∙ ap (λ z. rate_of flipped (rates_at c.args.rates.now i) +ℤ z)
    (walk_added c.args.checker.now.instance.now c.args.slacks.now cycles walks c.args.pair
    c.rows.result.now c.period-period.result c.args.shown.now.arcs.now flipped i above
    (c.requires.named.1 above) rows c.period-period.ensures.period c.requires.fits.arcs)
