use Rattle.std.proofs.Common.{◌∙◌, ap}
use Rattle.pesp_truth.specs.Certificates.{lines_of}
use Rattle.pesp_cert.specs.Fronted.{Fronted}
use Rattle.pesp_branching.specs.Rooms.{branch_lines}
use Rattle.pesp_sharp_search.proofs.Choices.{sharp_solved}
use Rattle.pesp_sharp_search.proofs.choice.settled.Goals as goal

pub returns-clause-solved : goal.returns-clause-solved
returns-clause-solved c =
    let used = c.branches_of-steps_used.ensures ∙ ap (λ (f : Fronted). branch_lines (lines_of f.content)) c.fronted.view_is in
    sharp_solved c.args.instance.now c.args.plain c.args.steps c.branches_of-steps_used.result c.in_ok-found.found
    c.in_ok-fronted.fronted c.requires c.in_ok-found.ensures c.in_ok-fronted.ensures used
