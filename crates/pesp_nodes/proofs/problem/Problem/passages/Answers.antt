use Rattle.pesp_nodes.proofs.Keeping.{passages_small}
use Rattle.pesp_nodes.proofs.problem.Problem.passages.Goals as goal

pub returns-clause-short : goal.returns-clause-short
returns-clause-short c = rw c.deref.ensures.value
    (passages_small _ c.self.inside.table.items c.self.inside.by_row.items c.self.invariant.small
    c.self.invariant.passages)
