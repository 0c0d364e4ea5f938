use Rattle.pesp_propagate.proofs.Summing.{Slants}
use Rattle.pesp_propagate.proofs.numbers.slant.Given as goal

abbrev pub invariant-loop-i : goal.invariant-loop-i
invariant-loop-i l = Slants l.slope l.initial.numbers l.numbers l.i
