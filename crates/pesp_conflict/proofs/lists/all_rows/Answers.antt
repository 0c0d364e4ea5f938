use Rattle.pesp_conflict.proofs.Numbers.{none_are_all, more_are_all}
use Rattle.pesp_conflict.proofs.lists.all_rows.Goals as goal

pub loop-place-init : goal.loop-place-init
loop-place-init c = rw (c.new-rows.ensures.items) none_are_all

pub loop-place-preserved : goal.loop-place-preserved
loop-place-preserved c = rw (c.in_ok-push.ensures.items) (more_are_all c.loop-place.rows.items c.loop-place.place c.loop-place.invariant)
