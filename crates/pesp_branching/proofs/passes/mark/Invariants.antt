use Rattle.pesp_branching.proofs.Marks.{AreMarked}
use Rattle.pesp_branching.proofs.passes.mark.Given as goal

abbrev pub invariant-loop-s : goal.invariant-loop-s
invariant-loop-s l = AreMarked l.fn.passed l.rows l.s-index l.passed
