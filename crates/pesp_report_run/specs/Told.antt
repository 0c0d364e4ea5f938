-- What is told of a conflict, as a line and as an exit status.
use Rattle.std.specs.Prelude.{ℕ, List, ◌++◌, codes, decimal, Bool, true, false}
use Rattle.pesp_report_run.specs.declared.told.Told.{Told}
use Rattle.pesp_report_run.specs.declared.told.Told.TheVariants.{Irreducible, Conflict, Timetable, Undecided}

-- what is told of a list, where each listed activity is needed or perhaps not
abbrev pub told_of : ℕ → ℕ → Bool → Told
told_of listed of true = Irreducible listed of
told_of listed of false = Conflict listed of

-- the line without the line feed at its end
abbrev pub told_text : Told → List ℕ
told_text (Irreducible listed of) = decimal listed ++ codes " of " ++ decimal of ++ codes " activities conflict; each is needed"
told_text (Conflict listed of) = decimal listed ++ codes " of " ++ decimal of ++ codes " activities conflict; perhaps fewer do"
told_text Timetable = codes "no conflict was found: the instance has a timetable"
told_text (Undecided steps) = codes "no conflict was found within " ++ decimal steps ++ codes " steps"

-- 0 for a list, 1 for none
abbrev pub told_status : Told → ℕ
told_status (Irreducible listed of) = 0
told_status (Conflict listed of) = 0
told_status Timetable = 1
told_status (Undecided steps) = 1
