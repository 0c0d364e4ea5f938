use Rattle.std.proofs.Common.{◌≡◌, take}
use Rattle.std.specs.Prelude.{map}
use Rattle.pesp_old_times.specs.Moves.{or_zero}
use Rattle.pesp_old_times.proofs.violated.times_of.Given as goal

abbrev pub invariant-loop-time : goal.invariant-loop-time
invariant-loop-time l = l.times.items ≡ map or_zero (take l.time-index l.wanted)
