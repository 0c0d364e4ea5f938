-- What comes of work on some of the open leaves of a certificate.
use Rattle.std.proofs.Common.{◌≡◌, ℕ, inl, inr, List, Option, Some}
use Rattle.std.specs.Prelude.{◌⊎◌, IfSome}
use Rattle.pesp_problem.specs.Timetables.{Pesp}
use Rattle.pesp_truth.specs.Certificates.{IsValid}
use Rattle.pesp_cert.specs.Fronted.{Fronted}
use Rattle.pesp_sharp_work.specs.Keeping.{KeepsOtherLeaves}
use Rattle.pesp_sharp_search.specs.Solving.{IsSharpResumed}
use Rattle.pesp_sharp_search.specs.Keeping.{IsSharpWorked}
use Rattle.pesp_sharp_search.proofs.Choices.{base_stands}

-- what was found, or the base
pub worked_on : (p : Pesp) (base : Fronted) (jobs : List ℕ) (steps : ℕ) (until : Option ℕ) (found : Option Fronted) (c : Fronted)
    → IsValid base.front p base.content → IfSome found (IsSharpResumed p base steps)
    → ((c ≡ base) ⊎ (found ≡ Some c)) × KeepsOtherLeaves p base jobs until c → IsSharpWorked p base jobs steps until c
worked_on p base jobs steps until found c valid resumed (inl is, others) =
    record { resumed = rw is (base_stands p base steps valid); others = others }
worked_on p base jobs steps until found c valid resumed (inr is, others) =
    record { resumed = rw is at resumed; others = others }
