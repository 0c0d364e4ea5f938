use Rattle.pesp_conflict.proofs.Parts.{part_keeps_limits}
use Rattle.pesp_conflict.proofs.part.part_of.Goals as goal

pub new-requires : goal.new-requires
new-requires c = rw (
  c.period.ensures.period,
  c.in_ok-events.ensures.items,
  c.in_ok-rows.ensures,
  c.events.ensures.events,
  c.rows.ensures.rows,
)
    (part_keeps_limits c.args.instance.now c.args.listed.now c.period.ensures.limits c.requires.names
    c.requires.few)
