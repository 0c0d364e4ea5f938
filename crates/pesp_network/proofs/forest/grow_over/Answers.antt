use Rattle.std.proofs.Common.{◌∙◌, ap, map, arith}
use Rattle.std.proofs.lemmas.Grind.{common_steps}
use Rattle.pesp_network.specs.Rooted.{row_number_of}
use Rattle.pesp_network.specs.Growing.{at}
use Rattle.pesp_network.proofs.Picking.{bys_few, kept_ends, kept_grown, regrown, picked_met, grown_among}
use Rattle.pesp_network.proofs.forest.grow_over.Goals as goal

pub grow-requires-clause-ends : goal.grow-requires-clause-ends
grow-requires-clause-ends c = kept_ends c.args.events c.args.rows.now c.args.numbers.now _
    (c.as_slice.ensures.value ∙ c.in_ok-kept.ensures) c.requires.names c.requires.ends

pub renumber-requires : goal.renumber-requires
renumber-requires c = bys_few c.args.rows.now c.args.numbers.now c.as_slice.result.now c.in_ok-growth.growth _
    (c.as_slice.ensures.value ∙ c.in_ok-kept.ensures) c.as_slice-2.ensures.value c.in_ok-growth.ensures.grown

pub returns-clause-grown : goal.returns-clause-grown
returns-clause-grown c =
    let g = c.in_ok-growth.growth in let e = c.in_ok-growth.ensures in
    regrown c.args.events c.args.rows.now c.args.numbers.now g.by.items _ (at g.left.items) c.requires.names c.requires.ends c.requires.rows
    (grown_among c.args.events c.args.rows.now c.args.numbers.now g e.events
    (kept_grown c.args.rows.now c.args.numbers.now c.as_slice.result.now g
    (c.as_slice.ensures.value ∙ c.in_ok-kept.ensures) e.grown))
    e.closed e.all_seen e.events (c.in_ok-by.ensures ∙ ap (map (row_number_of c.args.numbers.now)) c.as_slice-2.ensures.value)

pub returns-clause-met : goal.returns-clause-met
returns-clause-met c = λ i h.
    let g = c.in_ok-growth.growth in let e = c.in_ok-growth.ensures in
    picked_met c.args.events c.args.rows.now c.args.numbers.now g i c.requires.names c.requires.ends
    (kept_grown c.args.rows.now c.args.numbers.now c.as_slice.result.now g
    (c.as_slice.ensures.value ∙ c.in_ok-kept.ensures) e.grown) e.closed e.all_seen h

pub grow-requires-clause-count : goal.grow-requires-clause-count
grow-requires-clause-count c = grind (arith, common_steps)

pub invariant_of-result : goal.invariant_of-result
invariant_of-result c = grind (arith, common_steps)
