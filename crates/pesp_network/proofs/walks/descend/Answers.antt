use Rattle.std.proofs.Common.{vec_len, ◌++◌, ◌∷◌, [], arith, ap, ◌∙◌}
use Rattle.std.proofs.lemmas.List.{get_or_read}
use Rattle.pesp_network.specs.Networks.{arcs_of_network}
use Rattle.pesp_network.specs.Growing.{at}
use Rattle.pesp_network.proofs.Places.{count}
use Rattle.pesp_network.proofs.Stepping.{descends_first, descends_more, descends_all, joined_down, moved_down}
use Rattle.pesp_network.proofs.walks.descend.Goals as goal

pub descent-init : goal.descent-init
descent-init c = descends_first (vec_len c.args.forest.now.up) (arcs_of_network c.args.rows.now) c.args.forest.now c.args.from
    c.args.to _ c.requires.to c.requires.above c.new-way.ensures.items

pub downward-requires-clause-row : goal.downward-requires-clause-row
downward-requires-clause-row c =
    let f = c.requires.forest in
    let j = joined_down (vec_len c.args.forest.now.up) (arcs_of_network c.args.rows.now) c.args.forest.now c.args.from c.args.to _
    c.descent.lower f c.requires.from c.descent.invariant c.descent-test.true in
    let b = f.grown.by_row c.descent.lower in let n = count c.args.rows.now in (omega arith, omega arith)

pub descent-smaller : goal.descent-smaller
descent-smaller c =
    let f = c.requires.forest in let g = c.args.forest.now in let v = c.descent.lower in let i = c.descent.invariant in
    let l = g.up.ok.0 in let n = f.events in let below = i.below in
    let p = get_or_read g.up.items v _ (omega arith) c.index-lower.ensures 0 in
    let j = joined_down (vec_len g.up) (arcs_of_network c.args.rows.now) g c.args.from c.args.to _ v f
    c.requires.from i c.descent-test.true in
    let q = ap (at g.place.items) p in let w = f.grown.climbs v j in omega arith

pub descent-preserved : goal.descent-preserved
descent-preserved c =
    let f = c.requires.forest in let g = c.args.forest.now in let v = c.descent.lower in let i = c.descent.invariant in
    let l = g.up.ok.0 in let n = f.events in let below = i.below in
    let p = get_or_read g.up.items v _ (omega arith) c.index-lower.ensures 0 in
    moved_down (vec_len g.up) (arcs_of_network c.args.rows.now) g c.args.from c.args.to _ _ c.index-lower.result.now p
    (descends_more (vec_len g.up) (arcs_of_network c.args.rows.now) g c.args.from c.args.to _ _ v f c.requires.from
    i c.descent-test.true (c.in_ok-push.ensures.items
    ∙ ap (λ s. c.descent.way.items ++ s ∷ []) c.downward.ensures))

pub returns : goal.returns
returns c = descends_all (vec_len c.args.forest.now.up) (arcs_of_network c.args.rows.now) c.args.forest.now c.args.from c.args.to _
    c.descent.lower c.requires.forest c.descent.invariant c.descent-test.false
