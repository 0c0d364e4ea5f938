use Rattle.pesp_board.proofs.Sizing.{IsCounted}
use Rattle.pesp_board.proofs.give.size_with.Given as goal

abbrev pub invariant-loop-part : goal.invariant-loop-part
invariant-loop-part l = IsCounted l.rest l.parts l.count l.part-index
