use Rattle.pesp_propagate.proofs.Summing.{SumsUp}
use Rattle.pesp_propagate.proofs.numbers.sum_up.Given as goal

abbrev pub invariant-loop-i : goal.invariant-loop-i
invariant-loop-i l = SumsUp l.initial.numbers l.numbers l.i
