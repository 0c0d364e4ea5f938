use Rattle.std.proofs.Common.{refl}
use Rattle.pesp_old_times.specs.OldTimes.{last_of}
use Rattle.pesp_old_times.proofs.table.Table.of.Goals as goal

pub returns : goal.returns
unfolding last_of
returns c = record { slots = c.in_ok-slots.ensures; strays = refl }
