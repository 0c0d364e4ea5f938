use Rattle.std.proofs.Common.{◌∙◌, Bool, ap, length}
use Rattle.pesp_problem.specs.Arcs.{net_of}
use Rattle.pesp_leaves.specs.Ranges.{node_of}
use Rattle.pesp_leaves.specs.Claims.{scale_told}
use Rattle.pesp_whole_check.proofs.Shown.{value_shows}
use Rattle.pesp_whole_check.proofs.costs.cost_at.Goals as goal

pub returns-clause-shown : goal.returns-clause-shown
returns-clause-shown g c walks claim nets tells =
    let told = c.args.checker.now.claim in
    c.shown_by.ensures ∙ value_shows told claim (net_of c.args.checker.now.instance.now) walks (g.P.Elements.elements c.args.pairs)
    (node_of c.args.ranges.now) (length c.args.checker.now.table.now) c.scale_of.result c.value_of-value.result tells nets.long
    (c.scale_of.ensures.value ∙ ap (λ (more : Bool). scale_told told more) c.names_more-more.ensures)
    (c.value_of-value.ensures.value walks claim nets tells)
