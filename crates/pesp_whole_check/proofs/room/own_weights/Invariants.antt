use Rattle.std.proofs.Common.{◌≡◌, take}
use Rattle.pesp_whole_check.proofs.OwnWeights.{weights_of}
use Rattle.pesp_whole_check.proofs.room.own_weights.Given as goal

abbrev pub invariant-loop-row : goal.invariant-loop-row
invariant-loop-row l = l.own.items ≡ weights_of (take l.row-index l.row-items)
