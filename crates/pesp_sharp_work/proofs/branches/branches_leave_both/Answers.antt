use Rattle.std.proofs.Common.{length}
use Rattle.pesp_problem.specs.Arcs.{net_of}
use Rattle.pesp_problem.specs.Nets.{AreNets}
use Rattle.pesp_sharp_work.proofs.Branching.{has_branches, ok_then}
use Rattle.pesp_sharp_work.proofs.branches.branches_leave_both.Goals as goal

pub returns-in-Ok : goal.returns-in-Ok
returns-in-Ok c =
    let p = c.args.instance.now in
    let content = c.args.certificate.now in
    let found = rw c.in-Ok.is at c.in_ok-table.ensures.verdict in
    let nets : AreNets (length p.rows) content.cycles c.deref.result.now = rw c.deref.ensures.value (rw c.cycles.ensures.value at found.1) in
    ok_then c.leave_both.result (λ both h is. has_branches (net_of p) content c.tree.ensures.limits.whole c.lines_are_one_tree.ensures.whole
    (rw c.tree.ensures.value at (h is content.cycles nets))) c.leave_both.ensures
