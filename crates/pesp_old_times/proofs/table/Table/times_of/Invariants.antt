use Rattle.std.proofs.Common.{◌≡◌, take}
use Rattle.std.specs.Prelude.{map}
use Rattle.pesp_old_times.specs.Tables.{time_of}
use Rattle.pesp_old_times.proofs.table.Table.times_of.Given as goal

abbrev pub invariant-loop-event : goal.invariant-loop-event
invariant-loop-event l = l.times.items ≡ map (time_of l.self) (take l.event-index l.events)
