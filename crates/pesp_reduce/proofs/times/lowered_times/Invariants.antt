-- what was made is the times of the events that were read
use Rattle.std.proofs.Common.{◌≡◌, map, take}
use Rattle.pesp_reduce.specs.Times.{lowered_time}
use Rattle.pesp_reduce.proofs.times.lowered_times.Given as goal

abbrev pub invariant-loop-first : goal.invariant-loop-first
invariant-loop-first l = l.made.items ≡ map (lowered_time l.period l.times l.shifts) (take l.first-index l.firsts)
