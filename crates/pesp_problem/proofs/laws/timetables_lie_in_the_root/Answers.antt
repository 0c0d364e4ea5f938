use Rattle.pesp_problem.proofs.Nodes.{timetable_in_root}
use Rattle.pesp_problem.proofs.laws.timetables_lie_in_the_root.Goals as goal

pub returns : goal.returns
returns c = timetable_in_root
