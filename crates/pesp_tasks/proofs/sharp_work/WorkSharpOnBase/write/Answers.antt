use Rattle.std.proofs.Common.{inr}
use Rattle.pesp_check.proofs.ReadingLemmas.{told_as}
use Rattle.pesp_tasks.proofs.SharpSolutions.{written}
use Rattle.pesp_tasks.proofs.sharp_work.WorkSharpOnBase.write.Goals as goal

pub returns-in_err-print_fronted-in-Some-clause-cause : goal.returns-in_err-print_fronted-in-Some-clause-cause
returns-in_err-print_fronted-in-Some-clause-cause g c =
    let found = rw c.in-Some.is at c.in_ok-fronted.ensures in
    let out = c.in_err-print_fronted-in-Some.ensures in
    told_as _ _ _ c.from_residual-in_err-print_fronted-in-Some.ensures.1
    (inr (out.fault, (found.0, written found.1 c.vouch.ensures.is_true c.vouch.ensures.has_text out.text)))

pub returns-in_ok-print_fronted-in-Some-clause-ok : goal.returns-in_ok-print_fronted-in-Some-clause-ok
returns-in_ok-print_fronted-in-Some-clause-ok g c =
    let found = rw c.in-Some.is at c.in_ok-fronted.ensures in
    (found.0, written found.1 c.vouch.ensures.is_true c.vouch.ensures.has_text c.in_ok-print_fronted-in-Some.ensures.text)
