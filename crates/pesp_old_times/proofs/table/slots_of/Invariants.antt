use Rattle.std.proofs.Common.{◌≡◌, ℤ, Some, None, cond, drop}
use Rattle.std.specs.Ordering.{int_eq}
use Rattle.indexmap.specs.IndexMap.{get}
use Rattle.pesp_old_times.specs.OldTimes.{has}
use Rattle.pesp_old_times.proofs.Slots.{bare}
use Rattle.pesp_old_times.proofs.table.slots_of.Given as goal

abbrev pub invariant-loop-event : goal.invariant-loop-event
invariant-loop-event l = (q : ℤ) → cond (has (drop l.event-index l.events) q) (Some None) (get int_eq l.slots q) ≡ bare l.events q
