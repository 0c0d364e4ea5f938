use Rattle.pesp_timetable.proofs.records.write_entry.Goals as goal

pub returns : goal.returns
returns c = λ before h.
    rw (c.told_at-told.ensures, c.as_bytes.ensures.value, c.in_ok-clock.ensures) at (c.write_told.ensures before h)
