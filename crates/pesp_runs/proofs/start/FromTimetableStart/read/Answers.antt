use Rattle.pesp_runs.proofs.start.FromTimetableStart.read.Goals as goal

pub returns-clause-ok : goal.returns-clause-ok
returns-clause-ok g c =
    let timetable = rw c.deref.ensures.value at c.in_ok-judge.ensures.timetable in
    (c.in_ok-times.ensures.ok, timetable)
