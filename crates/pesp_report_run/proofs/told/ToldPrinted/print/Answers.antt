use Rattle.pesp_report_run.proofs.told.ToldPrinted.print.Goals as goal

pub returns-in-Timetable : goal.returns-in-Timetable
returns-in-Timetable g c = rw (c.in-Timetable.is) c.put.ensures

pub returns-in-Undecided : goal.returns-in-Undecided
returns-in-Undecided g c = rw (c.in-Undecided.is) c.print-in-Undecided.ensures
