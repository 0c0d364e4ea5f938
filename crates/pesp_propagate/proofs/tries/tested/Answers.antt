use Rattle.std.proofs.Common.{rules}
use Rattle.pesp_propagate.proofs.tries.tested.Goals as goal

pub returns-then-is_timetable : goal.returns-then-is_timetable
returns-then-is_timetable c = search rules
