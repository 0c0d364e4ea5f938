use Rattle.std.proofs.Common.{arith, ap, subst}
use Rattle.pesp_tree.specs.Entries.{IsFirst}
use Rattle.pesp_tree.proofs.Placing.{root_first}
use Rattle.pesp_tree.proofs.queue.Queue.first.Goals as goal

pub returns-clause-first : goal.returns-clause-first
returns-clause-first c =
    let v = c.self.view_is in
    let x = c.index.ensures in
    subst (λ l. IsFirst l c.index.result.now) (ap (λ q. q.waiting) v)
    (root_first c.self.inside.entries.items c.self.inside.waiting c.index.result.now
    (omega arith) c.self.invariant.within x c.self.invariant.heap)
