use Rattle.std.proofs.Common.{arith}
use Rattle.std.proofs.lemmas.Grind.{common_steps}
use Rattle.pesp_tree.proofs.queue.Queue.remove.Goals as goal

pub returns-clause-parked : goal.returns-clause-parked
returns-clause-parked c =
    let back = c.take_out.ensures.back c.self.inside.waiting c.place_of-at.ensures.behind in
    grind (arith, common_steps)

pub invariant_of-self : goal.invariant_of-self
invariant_of-self c =
    let heap = c.take_out.ensures.heap c.self.inside.waiting c.place_of-at.ensures.behind c.self.invariant.heap in
    grind (arith, common_steps)

pub returns-clause-room : goal.returns-clause-room
returns-clause-room c = grind (arith, common_steps)
