use Rattle.pesp_network.proofs.network.Network.is_timetable.Goals as goal

pub is_timetable-requires : goal.is_timetable-requires
is_timetable-requires c = record { limits = rw (c.period.ensures.period, c.events.ensures.events) c.arcs.ensures.each }

pub returns : goal.returns
returns c = rw (← c.period.ensures.period, ← c.events.ensures.events, ← c.arcs.ensures.arcs) c.is_timetable.ensures
