use Rattle.pesp_truth.proofs.FrontLimits.{limits_of}
use Rattle.pesp_truth.proofs.marks.Marks.walks.Goals as goal

pub returns-clause-limits : goal.returns-clause-limits
returns-clause-limits c = rw (← c.self.view_is) (limits_of _ c.self.invariant)
