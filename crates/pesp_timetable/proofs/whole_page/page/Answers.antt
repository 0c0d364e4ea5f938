use Rattle.std.proofs.Common.{rules}
use Rattle.pesp_timetable.proofs.whole_page.page.Goals as goal

pub returns-in-Ok-print_to-clause-timetable : goal.returns-in-Ok-print_to-clause-timetable
returns-in-Ok-print_to-clause-timetable g c = search rules
