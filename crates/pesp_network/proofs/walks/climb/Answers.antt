use Rattle.std.proofs.Common.{vec_len, ◌++◌, ◌∷◌, [], arith, ap, ◌∙◌, sym}
use Rattle.std.proofs.lemmas.List.{get_or_read}
use Rattle.pesp_network.specs.Networks.{arcs_of_network}
use Rattle.pesp_network.specs.Growing.{at}
use Rattle.pesp_network.proofs.Places.{count}
use Rattle.pesp_network.proofs.Stepping.{climbs_first, climbs_more, climbs_all, joined_up, moved_up}
use Rattle.pesp_network.proofs.walks.climb.Goals as goal

pub climb-init : goal.climb-init
climb-init c = climbs_first (vec_len c.args.forest.now.up) (arcs_of_network c.args.rows.now) c.args.forest.now c.args.to c.args.from
    c.args.walk.now.items c.requires.from c.requires.one_tree

pub upward-requires-clause-row : goal.upward-requires-clause-row
upward-requires-clause-row c =
    let f = c.requires.forest in
    let j = joined_up (vec_len c.args.forest.now.up) (arcs_of_network c.args.rows.now) c.args.forest.now c.args.to c.args.from _ _
    c.climb.upper f c.requires.to c.climb.invariant (sym c.is_above.ensures ∙ c.climb-test.true) in
    let b = f.grown.by_row c.climb.upper in let n = count c.args.rows.now in (omega arith, omega arith)

pub climb-smaller : goal.climb-smaller
climb-smaller c =
    let f = c.requires.forest in let g = c.args.forest.now in let u = c.climb.upper in let i = c.climb.invariant in
    let l = g.up.ok.0 in let n = f.events in let below = i.below in
    let p = get_or_read g.up.items u _ (omega arith) c.index-upper.ensures 0 in
    let j = joined_up (vec_len g.up) (arcs_of_network c.args.rows.now) g c.args.to c.args.from _ _ u f c.requires.to
    i (sym c.is_above.ensures ∙ c.climb-test.true) in
    let q = ap (at g.place.items) p in let w = f.grown.climbs u j in omega arith

pub climb-preserved : goal.climb-preserved
climb-preserved c =
    let f = c.requires.forest in let g = c.args.forest.now in let u = c.climb.upper in let i = c.climb.invariant in
    let l = g.up.ok.0 in let n = f.events in let below = i.below in
    let p = get_or_read g.up.items u _ (omega arith) c.index-upper.ensures 0 in
    moved_up (vec_len g.up) (arcs_of_network c.args.rows.now) g c.args.to c.args.from _ _ _ c.index-upper.result.now p
    (climbs_more (vec_len g.up) (arcs_of_network c.args.rows.now) g c.args.to c.args.from _ _ _ u f c.requires.to i
    (sym c.is_above.ensures ∙ c.climb-test.true)
    (c.in_ok-push.ensures.items ∙ ap (λ s. c.climb.walk.items ++ s ∷ []) c.upward.ensures))

pub returns-clause-walk : goal.returns-clause-walk
returns-clause-walk c = (climbs_all (vec_len c.args.forest.now.up)
    (arcs_of_network c.args.rows.now) c.args.forest.now c.args.to c.args.from _ _ c.climb.upper c.requires.forest
    c.climb.invariant (sym c.is_above.ensures ∙ c.climb-test.false)).0

pub returns-clause-top : goal.returns-clause-top
returns-clause-top c = (climbs_all (vec_len c.args.forest.now.up)
    (arcs_of_network c.args.rows.now) c.args.forest.now c.args.to c.args.from _ _ c.climb.upper c.requires.forest
    c.climb.invariant (sym c.is_above.ensures ∙ c.climb-test.false)).1
