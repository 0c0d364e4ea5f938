use Rattle.std.proofs.Common.{arith, ap, subst}
use Rattle.std.proofs.lemmas.Grind.{common_steps}
use Rattle.pesp_tree.specs.Entries.{IsFirst}
use Rattle.pesp_tree.proofs.Placing.{root_first}
use Rattle.pesp_tree.proofs.queue.Queue.park.Goals as goal

pub returns-clause-first : goal.returns-clause-first
returns-clause-first c =
    let v = c.self.view_is in
    let x = c.index-first.ensures in
    subst (λ l. IsFirst l c.index-first.result.now) (ap (λ q. q.waiting) v)
    (root_first c.self.inside.entries.items c.self.inside.waiting c.index-first.result.now
    (omega arith) c.self.invariant.within x c.self.invariant.heap)

pub returns-clause-front : goal.returns-clause-front
returns-clause-front c = grind (arith, common_steps)

pub returns-clause-waiting : goal.returns-clause-waiting
returns-clause-waiting c = grind (arith, common_steps)

pub returns-clause-parked : goal.returns-clause-parked
returns-clause-parked c = grind (arith, common_steps)
