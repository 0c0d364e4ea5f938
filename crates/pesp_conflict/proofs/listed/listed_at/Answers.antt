use Rattle.pesp_conflict.proofs.ListedRows.{listed-is}
use Rattle.pesp_conflict.proofs.listed.listed_at.Goals as goal

pub returns : goal.returns
returns c = rw (c.events-events.ensures.events, c.rows.ensures.rows)
    (listed-is c.args.instance.now c.args.number c.rows.ensures.limits c.requires)
