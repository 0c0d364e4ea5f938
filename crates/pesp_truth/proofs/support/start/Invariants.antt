use Rattle.pesp_truth.specs.Sets.{family_at}
use Rattle.pesp_truth.specs.Supports.{IsStart}
use Rattle.pesp_truth.proofs.support.start.Given as goal

abbrev pub invariant-loop-event : goal.invariant-loop-event
invariant-loop-event l = IsStart l.period l.firsts l.event (family_at l.period l.words)
