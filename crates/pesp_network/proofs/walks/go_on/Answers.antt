use Rattle.std.proofs.Common.{vec_len, arith, ◌∙◌}
use Rattle.pesp_network.specs.Networks.{arcs_of_network}
use Rattle.pesp_network.proofs.Paths.{top_facts, above_at, goes_on}
use Rattle.pesp_network.proofs.walks.go_on.Goals as goal

pub descend-requires-clause-from : goal.descend-requires-clause-from
descend-requires-clause-from c =
    let r = c.requires in
    let w = (top_facts (vec_len c.args.forest.now.up) (arcs_of_network c.args.rows.now) c.args.forest.now c.args.from c.args.to
    r.forest r.from r.to r.one_tree).0 in let q = c.in_ok-upper.ensures.top in omega arith

pub descend-requires-clause-above : goal.descend-requires-clause-above
descend-requires-clause-above c =
    let r = c.requires in
    let w = top_facts (vec_len c.args.forest.now.up) (arcs_of_network c.args.rows.now) c.args.forest.now c.args.from c.args.to
    r.forest r.from r.to r.one_tree in
    above_at c.args.forest.now c.in_ok-upper.upper _ c.args.to c.in_ok-upper.ensures.top w.1

pub returns : goal.returns
returns c =
    goes_on (arcs_of_network c.args.rows.now) c.args.forest.now c.args.from c.args.to c.in_ok-upper.upper
    c.args.walk.now.items c.climb.new.walk.items c.as_slice.result.now _
    c.in_ok-upper.ensures.top c.in_ok-upper.ensures.walk
    (c.as_slice.ensures.value ∙ c.reverse.ensures.items ∙ c.in_ok-down.ensures)
    c.in_ok-extend_from_slice.ensures.items
