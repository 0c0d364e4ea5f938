use Rattle.pesp_problem.specs.declared.pair.Pair.{Pair}
use Rattle.pesp_truth.specs.Used.{CycleIsListed}
use Rattle.pesp_conflict.proofs.Numbers.{AllTo}
use Rattle.pesp_conflict.proofs.used.pairs_are_listed.Given as goal

abbrev pub invariant-loop-pair : goal.invariant-loop-pair
invariant-loop-pair l = AllTo (λ (p : Pair). CycleIsListed l.cycles l.listed p.cycle) l.pairs l.pair-index
