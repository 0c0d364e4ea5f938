-- What comes of work on some of the open leaves of a certificate.
use Rattle.std.specs.Prelude.{ℕ, List, Option}
use Rattle.pesp_problem.specs.Timetables.{Pesp}
use Rattle.pesp_cert.specs.Fronted.{Fronted}
use Rattle.pesp_sharp_work.specs.Keeping.{KeepsOtherLeaves}
use Rattle.pesp_sharp_search.specs.Solving.{IsSharpResumed}

-- what comes of work on leaves of a base: it is no worse, and the other leaves are there still
pub record IsSharpWorked (p : Pesp) (base : Fronted) (jobs : List ℕ) (steps : ℕ) (until : Option ℕ) (c : Fronted) : Type 0 where
  pub resumed : IsSharpResumed p base steps c
  pub others : KeepsOtherLeaves p base jobs until c
