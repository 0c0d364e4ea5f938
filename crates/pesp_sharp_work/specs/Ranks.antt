-- Whether one answer is no worse than another.
use Rattle.pesp_truth.specs.declared.answer.Answer.{Answer}
use Rattle.pesp_truth.specs.Certificates.{least_of, cost_of}
use Rattle.pesp_tree.specs.States.{IsAtMost}

-- the other answer's bound isn't below this one's, and its cost isn't above; none stands above every number
abbrev pub IsNoWorse : Answer → Answer → Type 0
IsNoWorse old new = IsAtMost (least_of old) (least_of new) × IsAtMost (cost_of new) (cost_of old)
