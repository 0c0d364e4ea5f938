-- When an answer is true: times, slacks and costs over the rows of the instance, and nothing else.
use Rattle.std.specs.Prelude.{ℕ, ◌<◌, ◌≤◌, List, Some, None}
use Rattle.pesp_problem.specs.Timetables.{Pesp, IsTimetable, IsTimetableOfCost, cost}
use Rattle.pesp_truth.specs.declared.answer.Answer.{Answer}
use Rattle.pesp_truth.specs.declared.answer.Answer.TheVariants.{Optimal, Infeasible, Bounded}

-- no timetable of the instance costs less than this
abbrev pub EachTimetableCostsAtLeast : Pesp → ℕ → Type 0
EachTimetableCostsAtLeast p least = (times : List ℕ) → IsTimetable p times → least ≤ cost p.period p.rows times

-- the instance has no timetable
abbrev pub HasNoTimetable : Pesp → Type 0
HasNoTimetable p = (times : List ℕ) → IsTimetable p times → ⊥

-- the answer is true of the instance and of the times that are shown with it
abbrev pub IsTrueAnswer : Pesp → Answer → List ℕ → Type 0
IsTrueAnswer p (Optimal c) times = IsTimetableOfCost p times c × EachTimetableCostsAtLeast p c
IsTrueAnswer p Infeasible times = HasNoTimetable p
IsTrueAnswer p (Bounded least (Some c)) times = IsTimetableOfCost p times c × (least < c) × EachTimetableCostsAtLeast p least
IsTrueAnswer p (Bounded least None) times = EachTimetableCostsAtLeast p least
