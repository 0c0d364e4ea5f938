use Rattle.pesp_propagate.proofs.Summing.{Clears}
use Rattle.pesp_propagate.proofs.numbers.clear.Given as goal

abbrev pub invariant-loop-i : goal.invariant-loop-i
invariant-loop-i l = Clears l.initial.numbers l.numbers l.i
