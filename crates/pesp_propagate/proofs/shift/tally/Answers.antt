use Rattle.std.proofs.Common.{sym, ◌∙◌}
use Rattle.pesp_propagate.specs.Entries.{crossings_of}
use Rattle.pesp_propagate.proofs.Taking.{takes_next}
use Rattle.pesp_propagate.proofs.Tallying.{crossing_at-entry}
use Rattle.pesp_propagate.proofs.shift.tally.Goals as goal

pub loop-entry-preserved : goal.loop-entry-preserved
loop-entry-preserved c =
    rw c.tilt.ensures (takes_next c.args.period
    (crossings_of c.args.arcs.now c.args.slacks.now c.args.entries.now) c.loop-entry.entry-index c.in-Some.row
    c.loop-entry.slope c.loop-entry.costs c.loop-entry.bars c.take_row.new.costs c.take_row.new.bars
    c.loop-entry.invariant (c.in-Some.ensures.value
    ∙ sym (crossing_at-entry c.args.arcs.now c.args.slacks.now c.args.entries.now c.loop-entry.entry-index
    c.loop-entry-test.true)) c.in-Some.ensures.limits c.take_row.ensures)
