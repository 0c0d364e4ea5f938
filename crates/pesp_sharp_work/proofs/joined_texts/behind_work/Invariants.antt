use Rattle.std.proofs.Common.{length}
use Rattle.pesp_sharp_work.proofs.Passed.{IsPassed}
use Rattle.pesp_sharp_work.proofs.joined_texts.behind_work.Given as goal

abbrev pub invariant-loop-more : goal.invariant-loop-more
invariant-loop-more l = IsPassed l.fn.text l.rest

abbrev pub decreases-loop-more : goal.decreases-loop-more
decreases-loop-more l = length l.rest
