use Rattle.std.proofs.Common.{◌<◌, false, rules, length}
use Rattle.pesp_problem.specs.declared.row.SignedRow.{SignedRow}
use Rattle.pesp_nodes.proofs.Following.{closed_way}
use Rattle.pesp_nodes.proofs.closed_walks.closes.Goals as goal

pub returns : goal.returns
returns c =
    let none : SignedRow = record { row = 0; plus = false } in
    let some : 0 < length c.args.walk.now = search rules in
    let is = closed_way c.args.arcs.now c.args.walk.now none some in
    let leads = rw c.start-event.ensures at c.leads.ensures in
    (λ t. is.0 (leads.0 t), λ w. leads.1 (is.1 w))
