-- What is told of a list that was written.
use Rattle.std.proofs.Common.{◌≡◌, ℕ, ℤ, List, length, Bool, true, false, refl}
use Rattle.std.specs.Prelude.{All, Option}
use Rattle.pesp_problem.specs.Timetables.{Pesp}
use Rattle.pesp_truth.specs.Conflicts.{IsNeeded}
use Rattle.pesp_report_run.specs.Told.{told_of}
use Rattle.pesp_report_run.specs.Runs.{WritesList, Tells}

pub told_of_list : (p : Pesp) (naming : Option (ℤ → List ℕ)) (steps listed of : ℕ) (each_needed : Bool) (Gets : List ℕ → Type 0) (silent : Type 0) (rows : List ℕ)
    → WritesList p naming rows Gets → (each_needed ≡ true → All (IsNeeded p rows) rows) → listed ≡ length rows → of ≡ length p.rows
    → Tells p naming steps (told_of listed of each_needed) Gets silent
told_of_list p naming steps listed of true Gets silent rows written needed many all = (rows, written, needed refl, many, all)
told_of_list p naming steps listed of false Gets silent rows written needed many all = (rows, written, many, all)
