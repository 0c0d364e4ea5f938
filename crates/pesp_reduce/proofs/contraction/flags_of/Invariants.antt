-- the numbers that were read are flagged
use Rattle.pesp_reduce.proofs.Flags.{AreFlaggedUpTo}
use Rattle.pesp_reduce.proofs.contraction.flags_of.Given as goal

abbrev pub invariant-loop-row : goal.invariant-loop-row
invariant-loop-row l = AreFlaggedUpTo l.count l.row-index l.forest l.flags.items
